-- The first 1,061 bytes of an input decide its answer.
use Rattle.std.proofs.Common.{◌≡◌, ℕ, ◌+◌, ◌-◌, ◌≤◌, ◌<◌, ◌⊎◌, ◌↔◌, nat_lt, List, [], ◌∷◌, ◌++◌, map, length, take, drop, decimal, Some, Option, Ok, Err, Result, sym, ap, ◌∙◌, subst, ⊎_elim, inl, inr, arith, length-append, append_assoc}
use Rattle.std.proofs.Math.Seq.{take-append-add}
use Rattle.std.proofs.lemmas.Bool.{cases_lt, lt-ltb, cond-true}
use Rattle.std.proofs.lemmas.Fmt.{length-decimal-le}
use Rattle.std.proofs.lemmas.List.{take-append-drop, take_all, drop_all, length-take-le, append-nil}
use Rattle.std.proofs.lemmas.Option.{none-some}
use Rattle.words.specs.Automata.{Automaton}
use Rattle.saving.specs.TableText.{line_of}
use Rattle.calls.specs.Lent.{lent_for}
use Rattle.calls.specs.declared.running.Settings.{Settings}
use Rattle.grammar.specs.Planning.{text_fault}
use Rattle.grammar.specs.declared.flaw.Flaw.TheVariants.{TooLong}
use Rattle.reading.specs.Reading.{RefusedFor}
use Rattle.reading.specs.declared.fault.Fault.{Fault}
use Rattle.reading.specs.declared.fault.Reason.{Reason}
use Rattle.reading.specs.declared.fault.Reason.TheVariants.{Text, Call}
use Rattle.deciding.specs.Answers.{opened, JudgesText, Answers}
use Rattle.deciding.specs.Questions.{heading, Asks, Asked}
use Rattle.deciding.specs.declared.answer.Answer.{Answer}
use Rattle.deciding.specs.declared.answer.Answer.TheVariants.{Refused, Judged as judged}
use Rattle.deciding.specs.declared.answer.Judged.{Judged}
use Rattle.deciding.specs.declared.question.Unread.{Unread}
use Rattle.deciding.specs.declared.question.Unread.TheVariants.{Heading, Values}
use Rattle.deciding.proofs.OneAnswer.{values_of}

-- two texts are the same, or both are too long
abbrev Alike : List ℕ → List ℕ → Type 0
Alike u w = (u ≡ w) ⊎ ((1024 < length u) × (1024 < length w))

module _ (numbered : List ℕ → Option ℕ) (size : ℕ) (a : ℕ → Automaton) (holds : ℕ → List ℕ → Type 0) where
  too_long : (n : ℕ) (text : List ℕ) → 1024 < length text → text_fault numbered a n 3088 text ≡ Some (TooLong, 0)
  too_long n text long = cond-true (nat_lt 1024 (length text)) (Some (TooLong, 0)) _ (lt-ltb 1024 (length text) long)

  refused_too : (s : Settings) (u w : List ℕ) → 1024 < length u → 1024 < length w → (r : Reason) (p : ℕ)
      → RefusedFor numbered size a holds (lent_for 64) 3088 u (opened s) r p → RefusedFor numbered size a holds (lent_for 64) 3088 w (opened s) r p
  refused_too s u w long long' (Text flaw) p h = too_long s.sets w long' ∙ sym (too_long s.sets u long) ∙ h
  refused_too s u w long long' (Call why) p h = absurd (none-some (TooLong, 0) (sym h.0 ∙ too_long s.sets u long))

  alike : (s : Settings) (u w : List ℕ) → Alike u w → (r : Result Judged Fault) → JudgesText numbered size a holds s u r → JudgesText numbered size a holds s w r
  alike s u w (inl same) r h = subst (λ text. JudgesText numbered size a holds s text r) same h
  alike s u w (inr (long, long')) (Ok j) h = absurd (none-some (TooLong, 0) (sym h.1.0 ∙ too_long s.sets u long))
  alike s u w (inr (long, long')) (Err e) (inl h) = inl h
  alike s u w (inr (long, long')) (Err e) (inr h) = inr (h.0, refused_too s u w long long' e.reason e.place h.1)

-- ---- the two lines are short

abbrev lines_of : Settings → List ℕ
lines_of s = heading ++ line_of (map decimal (values_of s))

module _ (s : Settings) (sets : s.sets ≤ 65535) (budget : s.budget ≤ 65535) (depth : s.depth ≤ 65535) where
  digits : (v : ℕ) → v ≤ 65535 → length (decimal v) ≤ 5
  digits v few = length-decimal-le 5 v (omega arith) (omega (arith, few)) (omega (arith, few))

  lines_short : length (lines_of s) ≤ 36
  lines_short =
      let d = decimal s.depth in
      let b = decimal s.budget in
      let behind = (32 ∷ b) ++ ((32 ∷ d) ++ []) in
      omega (
        arith,
        digits s.sets sets,
        digits s.budget budget,
        digits s.depth depth,
        length-append heading (line_of (map decimal (values_of s))),
        length-append (decimal s.sets ++ behind) (10 ∷ []),
        length-append (decimal s.sets) behind,
        length-append b ((32 ∷ d) ++ []),
        length-append d [],
      )

module _ (input : List ℕ) where
  whole : input ≡ take 1061 input ++ drop 1061 input
  whole = sym (take-append-drop 1061 input)

  -- how much of the text is among the first bytes
  abbrev kept : Settings → ℕ
  kept s = 1061 - length (lines_of s)

  module _ (s : Settings) (text : List ℕ) (asks : Asks input s text) where
    is_lines : input ≡ lines_of s ++ text
    is_lines = asks.0 ∙ sym (append_assoc heading (line_of (map decimal (values_of s))) text)

    short : length (lines_of s) ≤ 36
    short = lines_short s asks.1 asks.2 asks.3

    front : take 1061 input ≡ lines_of s ++ take (kept s) text
    front =
        let fits : 1061 ≡ length (lines_of s) + kept s = omega (arith, short) in
        ap (take 1061) is_lines ∙ ap (λ k. take k (lines_of s ++ text)) fits ∙ take-append-add (lines_of s) text (kept s)

    asks_front : Asks (take 1061 input) s (take (kept s) text)
    asks_front = (front ∙ append_assoc heading (line_of (map decimal (values_of s))) (take (kept s) text), asks.1, asks.2, asks.3)

    alike_front : Alike text (take (kept s) text)
    alike_front =
        ⊎_elim (λ more. inr (omega (arith, more, short), omega (arith, short, length-take-le (kept s) text (omega (arith, more)))))
        (λ few. inl (sym (take_all (kept s) text few))) (cases_lt (kept s) (length text))

  module _ (s : Settings) (text : List ℕ) (asks : Asks (take 1061 input) s text) where
    asks_whole : Asks input s (text ++ drop 1061 input)
    asks_whole =
        let line = line_of (map decimal (values_of s)) in (
          whole ∙ ap (λ xs. xs ++ drop 1061 input) asks.0 ∙ append_assoc heading (line ++ text) (drop 1061 input)
              ∙ ap (λ xs. heading ++ xs) (append_assoc line text (drop 1061 input)),
          asks.1,
          asks.2,
          asks.3,
        )

    alike_whole : Alike text (text ++ drop 1061 input)
    alike_whole =
        let lines : length (take 1061 input) ≡ length (lines_of s) + length text =
        ap length (asks.0 ∙ sym (append_assoc heading (line_of (map decimal (values_of s))) text)) ∙ length-append (lines_of s) text in
        let few = lines_short s asks.1 asks.2 asks.3 in
        ⊎_elim (λ more. let long : 1024 < length text = omega (arith, few, lines, length-take-le 1061 input (omega (arith, more))) in
        inr (long, omega (arith, long, length-append text (drop 1061 input))))
        (λ all. inl (sym (ap (λ xs. text ++ xs) (nothing input all) ∙ append-nil text))) (cases_lt 1061 (length input))
      where
        nothing : (xs : List ℕ) → length xs ≤ 1061 → drop 1061 xs ≡ []
        nothing xs all = drop_all 1061 xs all

  unread_front : (why : Unread) → Asked input (Err why) → Asked (take 1061 input) (Err why)
  unread_front Heading other = λ rest begins. other (rest ++ drop 1061 input) (whole ∙ ap (λ xs. xs ++ drop 1061 input) begins ∙ append_assoc heading rest (drop 1061 input))
  unread_front Values other = (
    (take 1043 other.0.0, ap (take 1061) other.0.1 ∙ take-append-add heading other.0.0 1043),
    λ s text asks. other.1 s (text ++ drop 1061 input) (asks_whole s text asks),
  )

  unread_whole : (why : Unread) → Asked (take 1061 input) (Err why) → Asked input (Err why)
  unread_whole Heading other = λ rest begins. other (take 1043 rest) (ap (take 1061) begins ∙ take-append-add heading rest 1043)
  unread_whole Values other = (
    (other.0.0 ++ drop 1061 input, whole ∙ ap (λ xs. xs ++ drop 1061 input) other.0.1 ∙ append_assoc heading other.0.0 (drop 1061 input)),
    λ s text asks. other.1 s (take (kept s) text) (asks_front s text asks),
  )

  -- ---- answers

  module _ (numbered : List ℕ → Option ℕ) (size : ℕ) (a : ℕ → Automaton) (holds : ℕ → List ℕ → Type 0) where
    to_front : (x : Answer) → Answers numbered size a holds input x → Answers numbered size a holds (take 1061 input) x
    to_front (Refused number layer place) (l, inl x) = (l, inl (x.0, unread_front x.0 x.1, x.2, x.3))
    to_front (Refused number layer place) (l, inr x) =
        (l, inr (x.0, take (kept x.0) x.1, asks_front x.0 x.1 x.2, x.3, alike numbered size a holds x.0 x.1 (take (kept x.0) x.1) (alike_front x.0 x.1 x.2) (Err x.3) x.4, x.5, x.6))
    to_front (judged j) x =
        (x.0, take (kept x.0) x.1, asks_front x.0 x.1 x.2, alike numbered size a holds x.0 x.1 (take (kept x.0) x.1) (alike_front x.0 x.1 x.2) (Ok j) x.3)

    to_whole : (x : Answer) → Answers numbered size a holds (take 1061 input) x → Answers numbered size a holds input x
    to_whole (Refused number layer place) (l, inl x) = (l, inl (x.0, unread_whole x.0 x.1, x.2, x.3))
    to_whole (Refused number layer place) (l, inr x) =
        (l, inr (x.0, x.1 ++ drop 1061 input, asks_whole x.0 x.1 x.2, x.3, alike numbered size a holds x.0 x.1 (x.1 ++ drop 1061 input) (alike_whole x.0 x.1 x.2) (Err x.3) x.4, x.5, x.6))
    to_whole (judged j) x =
        (x.0, x.1 ++ drop 1061 input, asks_whole x.0 x.1 x.2, alike numbered size a holds x.0 x.1 (x.1 ++ drop 1061 input) (alike_whole x.0 x.1 x.2) (Ok j) x.3)

    pub first_bytes : (x : Answer) → Answers numbered size a holds input x ↔ Answers numbered size a holds (take 1061 input) x
    first_bytes x = (to_front x, to_whole x)
