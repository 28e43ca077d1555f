-- One answer is owed to an input.
use Rattle.std.proofs.Common.{◌≡◌, ℕ, ◌≤◌, ◌<◌, ◌^◌, List, [], ◌∷◌, ◌++◌, map, get_or, decimal, All, Option, Ok, Err, sym, refl, ap, ◌∙◌, subst, inl, inr, arith}
use Rattle.std.proofs.lemmas.List.Elements.{All-cons, All-nil}
use Rattle.words.specs.Automata.{Automaton}
use Rattle.saving.specs.TableText.{line_of}
use Rattle.loading.proofs.LinesApart.{same_first}
use Rattle.loading.proofs.SameValues.{same_values}
use Rattle.tokens.specs.Items.{items_of}
use Rattle.calls.specs.Lent.{lent_for}
use Rattle.tray.specs.declared.control.Control.{Control}
use Rattle.checks.specs.Layers.{layer_of}
use Rattle.calls.specs.declared.running.Settings.{Settings}
use Rattle.calls.proofs.Failing.{never_both, one_failed}
use Rattle.grammar.proofs.OneClaim.{one_claim}
use Rattle.reading.specs.Reading.{RefusedFor}
use Rattle.reading.specs.ReadingLaws.{ReadingLaws}
use Rattle.reading.specs.Reasons.{reason_number}
use Rattle.reading.proofs.OneAnswer.{reading_laws}
use Rattle.reading.specs.declared.fault.Fault.{Fault}
use Rattle.reading.specs.declared.fault.Reason.{Reason}
use Rattle.deciding.specs.Answers.{opening, opened, JudgesOn, JudgesText, Lacks, Answers, Judges}
use Rattle.deciding.specs.Questions.{heading, Asks, Asked, unread_number}
use Rattle.deciding.specs.declared.answer.Answer.{Answer}
use Rattle.deciding.specs.declared.answer.Answer.TheVariants.{Refused, Judged as judged}
use Rattle.deciding.specs.declared.answer.Judged.{Judged}
use Rattle.deciding.specs.declared.question.Unread.{Unread}
use Rattle.deciding.specs.declared.question.Unread.TheVariants.{Heading, Values}
use Rattle.deciding.proofs.OneJudgement.{one_judgement}
use Rattle.deciding.proofs.Questions.{heading_is_line, values_line}

-- ---- an input asks one thing

abbrev pub values_of : Settings → List ℕ
values_of s = s.sets ∷ (s.budget ∷ (s.depth ∷ []))

small : (input : List ℕ) (s : Settings) (text : List ℕ) → Asks input s text → All (λ v. v < 2 ^ 64) (values_of s)
small input s text (is, sets, budget, depth) =
    let low : (v : ℕ) → v ≤ 65535 → v < 2 ^ 64 = λ v h. omega (arith, h) in
    All-cons (λ v. v < 2 ^ 64) s.sets (s.budget ∷ (s.depth ∷ [])) (low s.sets sets)
    (All-cons (λ v. v < 2 ^ 64) s.budget (s.depth ∷ []) (low s.budget budget) (All-cons (λ v. v < 2 ^ 64) s.depth [] (low s.depth depth) (All-nil (λ v. v < 2 ^ 64))))

one_question : (input : List ℕ) (s s' : Settings) (text text' : List ℕ) → Asks input s text → Asks input s' text' → (s ≡ s') × (text ≡ text')
one_question input s s' text text' x y =
    let line = line_of (map decimal (values_of s)) in
    let line' = line_of (map decimal (values_of s')) in
    let behind = same_first heading heading (line ++ text) (line' ++ text') heading_is_line heading_is_line (sym x.0 ∙ y.0) in
    let lines = same_first line line' text text' (values_line (values_of s)) (values_line (values_of s')) behind.1 in
    let same : values_of s ≡ values_of s' = same_values s.sets s'.sets (s.budget ∷ (s.depth ∷ [])) (s'.budget ∷ (s'.depth ∷ [])) (small input s text x) (small input s' text' y) lines.0 in
    ((λ i. record { sets = get_or (same i) 0 0; budget = get_or (same i) 1 0; depth = get_or (same i) 2 0 }), lines.1)

never_unread : (input : List ℕ) (why : Unread) (s : Settings) (text : List ℕ) → Asked input (Err why) → Asks input s text → ⊥
never_unread input Heading s text other asks = other (line_of (map decimal (values_of s)) ++ text) asks.0
never_unread input Values s text other asks = other.1 s text asks

one_unread : (input : List ℕ) (why why' : Unread) → Asked input (Err why) → Asked input (Err why') → unread_number why ≡ unread_number why'
one_unread input Heading Heading x y = refl
one_unread input Heading Values x y = absurd (x y.0.0 y.0.1)
one_unread input Values Heading x y = absurd (y x.0.0 x.0.1)
one_unread input Values Values x y = refl

-- ---- a text is judged or refused in one way

module _ (numbered : List ℕ → Option ℕ) (size : ℕ) (a : ℕ → Automaton) (holds : ℕ → List ℕ → Type 0) where
  laws : ReadingLaws numbered size a holds
  laws = reading_laws numbered size a holds

  never_judged : (text : List ℕ) (c : Control) (j : Judged) (r : Reason) (p : ℕ) → JudgesOn numbered size a holds text c (Ok j)
      → RefusedFor numbered size a holds (lent_for 64) 3088 text c r p → ⊥
  never_judged text c j r p x y = laws.never_both (lent_for 64) 3088 text c r p x.1 y x.0 x.2 x.3

  one_judged : (text : List ℕ) (c : Control) (j k : Judged) → JudgesOn numbered size a holds text c (Ok j) → JudgesOn numbered size a holds text c (Ok k) → j ≡ k
  one_judged text c j k x y =
      let same : y.1 ≡ x.1 = one_claim (items_of numbered a text) y.1 x.1 y.2.spells x.2.spells in
      one_judgement c.sets holds x.1 j k x.4 (subst (λ f. Judges c.sets holds f k) same y.4)

  module _ (s : Settings) (text : List ℕ) where
    one_fault : (e e' : Fault) → JudgesText numbered size a holds s text (Err e) → JudgesText numbered size a holds s text (Err e')
        → (reason_number e.reason ≡ reason_number e'.reason) × (e.place ≡ e'.place)
    one_fault e e' (inl x) (inl y) = (one_failed (opening s) (reason_number e.reason) (reason_number e'.reason) x.0 y.0, x.1 ∙ sym y.1)
    one_fault e e' (inl x) (inr y) = absurd (never_both (opening s) (reason_number e.reason) y.0 x.0)
    one_fault e e' (inr x) (inl y) = absurd (never_both (opening s) (reason_number e'.reason) x.0 y.0)
    one_fault e e' (inr x) (inr y) =
        let same = laws.one_fault (lent_for 64) 3088 text (opened s) e.reason e'.reason e.place e'.place x.1 y.1 in
        (ap reason_number same.0, same.1)

    never_fault : (j : Judged) (e : Fault) → JudgesText numbered size a holds s text (Ok j) → JudgesText numbered size a holds s text (Err e) → ⊥
    never_fault j e x (inl y) = never_both (opening s) (reason_number e.reason) x.0 y.0
    never_fault j e x (inr y) = never_judged text (opened s) j e.reason e.place x.1 y.1

  -- ---- an input

  module _ (input : List ℕ) where
    -- what is said of one reading of the input holds of every other
    moved : (P : Settings → List ℕ → Type 0) (s s' : Settings) (text text' : List ℕ) → Asks input s text → Asks input s' text' → P s' text' → P s text
    moved P s s' text text' x y p =
        let same = one_question input s' s text' text y x in
        subst (λ (q : Settings × List ℕ). P q.0 q.1) (λ i. (same.0 i, same.1 i)) p

    one_lack : (number number' place place' : ℕ) → Lacks numbered size a holds input number place → Lacks numbered size a holds input number' place'
        → (number ≡ number') × (place ≡ place')
    one_lack number number' place place' (inl x) (inl y) =
        (x.2 ∙ one_unread input x.0 y.0 x.1 y.1 ∙ sym y.2, x.3 ∙ sym y.3)
    one_lack number number' place place' (inl x) (inr y) = absurd (never_unread input x.0 y.0 y.1 x.1 y.2)
    one_lack number number' place place' (inr x) (inl y) = absurd (never_unread input y.0 x.0 x.1 y.1 x.2)
    one_lack number number' place place' (inr x) (inr y) =
        let other = moved (λ s text. JudgesText numbered size a holds s text (Err y.3)) x.0 y.0 x.1 y.1 x.2 y.2 y.4 in
        let same = one_fault x.0 x.1 x.3 y.3 x.4 other in
        (x.5 ∙ same.0 ∙ sym y.5, x.6 ∙ same.1 ∙ sym y.6)

    never_lack : (number place : ℕ) (j : Judged) → Lacks numbered size a holds input number place → Answers numbered size a holds input (judged j) → ⊥
    never_lack number place j (inl x) y = never_unread input x.0 y.0 y.1 x.1 y.2
    never_lack number place j (inr x) y =
        never_fault x.0 x.1 j x.3 (moved (λ s text. JudgesText numbered size a holds s text (Ok j)) x.0 y.0 x.1 y.1 x.2 y.2 y.3) x.4

    pub one_answer : (x y : Answer) → Answers numbered size a holds input x → Answers numbered size a holds input y → x ≡ y
    one_answer (Refused number layer place) (Refused number' layer' place') x y =
        let same = one_lack number number' place place' x.1 y.1 in
        let layers : layer ≡ layer' = x.0 ∙ ap layer_of same.0 ∙ sym y.0 in
        λ i. Refused (same.0 i) (layers i) (same.1 i)
    one_answer (Refused number layer place) (judged j) x y = absurd (never_lack number place j x.1 y)
    one_answer (judged j) (Refused number layer place) x y = absurd (never_lack number place j y.1 x)
    one_answer (judged j) (judged k) x y =
        let other = moved (λ s text. JudgesText numbered size a holds s text (Ok k)) x.0 y.0 x.1 y.1 x.2 y.2 y.3 in
        ap judged (one_judged x.1 (opened x.0) j k x.3.1 other.1)
