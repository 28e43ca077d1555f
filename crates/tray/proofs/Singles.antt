-- "Exactly one member" meets three states and keeps three.
use Rattle.std.proofs.Common.{◌≡◌, ℕ, zero, suc, ◌+◌, ◌*◌, ◌<◌, ◌≤◌, Bool, List, [], ◌∷◌, ◌++◌, map, get_or, drop, set, Decides, sym, refl, ap, ◌∙◌, subst, ap₂, ⊎_elim, arith, pow_pos}
use Rattle.std.proofs.lemmas.List.{append-nil}
use Rattle.std.proofs.lemmas.Bool.{cases_lt, true≢false}
use Rattle.std.proofs.lemmas.Bool.Decides.{same_from_decides}
use Rattle.words.specs.Words.{Columns, coded}
use Rattle.words.specs.Automata.{Automaton, run, accepted, language}
use Rattle.words.specs.Relations.{Singleton}
use Rattle.words.specs.Residuals.{SameResidual, Count, MoreThan}
use Rattle.words.specs.Rows.{width}
use Rattle.words.specs.TableOf.{TableOf, answers}
use Rattle.tables.specs.Tabulated.{Elsewhere}
use Rattle.words.specs.Formulas.{through}
use Rattle.words.specs.Hiding.{turned}
use Rattle.words.proofs.Counts.{within, pigeons}
use Rattle.words.proofs.Hiding.{turned_here, turned_below}
use Rattle.words.proofs.Placing.{through_run, through_columns}
use Rattle.words.proofs.TableLaws.{residual_equality, table_counts}
use Rattle.books.specs.Rule.{Recognizes}
use Rattle.books.specs.Standard.{automaton, holds}
use Rattle.books.specs.StandardRule.{standard_rule}
use Rattle.tray.specs.Asked.{asked, SameBookState}
use Rattle.tray.proofs.Landings.{Lands, lands}
use Rattle.tray.specs.declared.control.Control.{Control}
use Rattle.tray.specs.View as view
use Rattle.tray.specs.View.{slot, moved}
use Rattle.tray.specs.Building.{Built}
use Rattle.tray.specs.declared.tray.Tray.{Tray}
use Rattle.tray.proofs.Askings.{asked_means}
use Rattle.tray.proofs.Builts.{landed_call}

abbrev pub exactly : Automaton
exactly = automaton 1

-- a run over place columns stays among the states
stays : (a : Automaton) (h : List ℕ → Type 0) → Recognizes a h → (s : ℕ) (v : List ℕ) → s < a.states → Columns a.places v → run a.step s v < a.states
stays a h d s [] inside cs = inside
stays a h d s (c ∷ v) inside cs = stays a h d (a.step s c) v (d.step s c inside cs.0) cs.1

-- ---- words of the column of set i alone

abbrev only : ℕ → ℕ
only i = turned i 1 0

abbrev times : ℕ → ℕ → List ℕ
times zero c = []
times (suc k) c = c ∷ times k c

times_columns : (n i k : ℕ) → i < n → Columns n (times k (only i))
times_columns n i zero h = tt
times_columns n i (suc k) h = (turned_below n i 1 0 (omega arith) h (pow_pos n), times_columns n i k h)

times_push : (k c : ℕ) → times k c ++ c ∷ [] ≡ times (suc k) c
times_push zero c = refl
times_push (suc k) c = ap (λ w. c ∷ w) (times_push k c)

times_read : (i k : ℕ) → map (through (i ∷ [])) (times k (only i)) ≡ times k 1
times_read i zero = refl
times_read i (suc k) = ap₂ (λ c w. c ∷ w) (ap (λ b. b + 2 * 0) (turned_here i 1 0 (omega arith))) (times_read i k)

module _ (n i : ℕ) (there : i < n) (L : List ℕ → Bool) (means : (w : List ℕ) → Columns n w → Decides (L w) (Singleton (coded i w))) where
  -- such a word is accepted when it has one column
  says : (k : ℕ) → L (times k (only i)) ≡ accepted exactly (times k 1)
  unfolding exactly
  says k =
      same_from_decides (L (times k (only i))) (language (asked exactly (i ∷ [])) (times k (only i))) (means (times k (only i)) (times_columns n i k there))
      (asked_means exactly (i ∷ []) (holds 1) (standard_rule.recognizes 1 (omega arith)) refl (times k (only i)))
      ∙ ap exactly.accepts (through_run exactly.step (i ∷ []) exactly.start (times k (only i)))
      ∙ ap (accepted exactly) (times_read i k)

  -- so no two of the words of none, one and two columns have the same residual
  alike : (j k : ℕ) → SameResidual n L (times j (only i)) (times k (only i))
      → (accepted exactly (times j 1) ≡ accepted exactly (times k 1)) × (accepted exactly (times (suc j) 1) ≡ accepted exactly (times (suc k) 1))
  alike j k same = (
    sym (says j) ∙ ap L (sym (append-nil (times j (only i)))) ∙ same [] tt ∙ ap L (append-nil (times k (only i))) ∙ says k,
    sym (says (suc j)) ∙ ap L (sym (times_push j (only i))) ∙ same (only i ∷ []) (times_columns n i 1 there) ∙ ap L (times_push k (only i)) ∙ says (suc k),
  )

  apart : (j k : ℕ) → j ≤ 2 → k ≤ 2 → SameResidual n L (times j (only i)) (times k (only i)) → j ≡ k
  unfolding exactly
  apart zero zero hj hk same = refl
  apart zero (suc zero) hj hk same = absurd (true≢false (sym (alike 0 1 same).0))
  apart zero (suc (suc zero)) hj hk same = absurd (true≢false (alike 0 2 same).1)
  apart (suc zero) zero hj hk same = absurd (true≢false (alike 1 0 same).0)
  apart (suc zero) (suc zero) hj hk same = refl
  apart (suc zero) (suc (suc zero)) hj hk same = absurd (true≢false (alike 1 2 same).0)
  apart (suc (suc zero)) zero hj hk same = absurd (true≢false (sym (alike 2 0 same).1))
  apart (suc (suc zero)) (suc zero) hj hk same = absurd (true≢false (sym (alike 2 1 same).0))
  apart (suc (suc zero)) (suc (suc zero)) hj hk same = refl
  apart (suc (suc (suc j))) k hj hk same = absurd (omega arith)
  apart zero (suc (suc (suc k))) hj hk same = absurd (omega arith)
  apart (suc zero) (suc (suc (suc k))) hj hk same = absurd (omega arith)
  apart (suc (suc zero)) (suc (suc (suc k))) hj hk same = absurd (omega arith)

  three : MoreThan n (SameResidual n L) 2
  three = record { word = λ k. times k (only i); columns = λ k h. times_columns n i k there; different = apart }

  pub at_least_three : (k : ℕ) → Count n (SameResidual n L) k → 3 ≤ k
  at_least_three k counted =
      ⊎_elim (λ l. absurd (within n (SameResidual n L) (residual_equality n L) k 2 (omega arith) counted three)) (λ l. l) (cases_lt k 3)

-- the book has three states
pub not_four : (n i : ℕ) → MoreThan n (SameBookState exactly (i ∷ [])) 3 → ⊥
unfolding exactly
not_four n i more =
    pigeons 3 (λ j. run exactly.step exactly.start (map (through (i ∷ [])) (more.word j)))
    (λ j h. stays exactly (holds 1) (standard_rule.recognizes 1 (omega arith)) exactly.start (map (through (i ∷ [])) (more.word j)) (omega arith) (through_columns (i ∷ []) (more.word j)))
    (λ j k hj hk e. more.different j k (omega arith) (omega arith) e)

-- what the book's `one` accepts, read through set i
pub one_means : (i : ℕ) (w : List ℕ) → Decides (language (asked exactly (i ∷ [])) w) (Singleton (coded i w))
one_means i w = asked_means exactly (i ∷ []) (holds 1) (standard_rule.recognizes 1 (omega arith)) refl w

-- an exploration with room for three states meets three, and its table has three
pub single_counts : (n i : ℕ) (L : List ℕ → Bool) (rows : List ℕ) (met size : ℕ) → i < n → met ≤ 3 → size ≤ met → TableOf n L rows size
    → ((w : List ℕ) → Columns n w → Decides (L w) (Singleton (coded i w))) → (met ≡ 3) × (size ≡ 3)
single_counts n i L rows met size there few fewer table means =
    let many : 3 ≤ size = at_least_three n i there L means size (table_counts n L rows size table) in
    (omega (arith, many, few, fewer), omega (arith, many, few, fewer))

pub single_moves : (n i : ℕ) → i < n → (u w : List ℕ) → Columns n u → Columns n w → ((j : ℕ) → j < n → coded j u ≡ coded j w) → Singleton (coded i u) → Singleton (coded i w)
single_moves n i there u w cu cw same h = subst Singleton (same i there) h

-- the call: three states are met and kept, and the new top is counted by its own residuals
module _ (t : Tray) (i : ℕ) (there : i < t.control.sets) (high : t.control.count < t.control.depth) (enough : 3 ≤ t.control.budget)
    (L : List ℕ → Bool) (fresh tables' : List ℕ) (met size : ℕ) (few : met ≤ 3) (fewer : size ≤ met) (made : TableOf t.control.sets L fresh size)
    (means : (w : List ℕ) → Decides (L w) (Singleton (coded i w)))
    (copied : (x : ℕ) → x < size * width t.control.sets → get_or tables' (t.control.count * slot t.control + x) 0 ≡ get_or fresh x 0)
    (elsewhere : Elsewhere (t.control.count * slot t.control) (size * width t.control.sets) t.tables.now tables')
  where
    pub three_states : (met ≡ 3) × (size ≡ 3)
    three_states = single_counts t.control.sets i L fresh met size there few fewer made (λ w _. means w)

    landed : Lands t.control.sets t.control.budget (t.control.count * slot t.control) (SameResidual t.control.sets (answers t.control.sets size (drop (t.control.count * slot t.control) tables')))
        (λ w. Singleton (coded i w)) t.tables.now tables' met size
    landed =
        let same : size ≡ met = omega (arith, three_states.0, three_states.1) in
        let first = lands t.control.sets t.control.budget (t.control.count * slot t.control) (SameResidual t.control.sets L) (λ w. Singleton (coded i w)) L fresh t.tables.now tables' met size
        (omega (arith, few, enough)) fewer (subst (Count t.control.sets (SameResidual t.control.sets L)) same (table_counts t.control.sets L fresh size made)) made copied elsewhere (λ w _. means w) in
        record {
          met_few = first.met_few;
          size_few = fewer;
          met_count = subst (Count t.control.sets (SameResidual t.control.sets (answers t.control.sets size (drop (t.control.count * slot t.control) tables')))) same
              (table_counts t.control.sets (answers t.control.sets size (drop (t.control.count * slot t.control) tables')) (drop (t.control.count * slot t.control) tables') size first.table);
          table = first.table;
          means = first.means;
          elsewhere = elsewhere;
        }

    pub single_call : (c' : Control) → c' ≡ moved t.control (t.control.count + 1) (set t.control.sizes t.control.count size)
        → ((k : ℕ) → k < c'.count → ∥ view.Stands c' tables' k ∥₁)
        × Built t.control.count (SameResidual t.control.sets (view.says c' tables' t.control.count)) (λ w. Singleton (coded i w)) met size t.control t.tables.now c' tables'
    single_call c' is =
        let m : Control = moved t.control (t.control.count + 1) (set t.control.sizes t.control.count size) in
        let call = landed_call t t.control.count (SameResidual t.control.sets (answers t.control.sets size (drop (t.control.count * slot t.control) tables'))) (λ w. Singleton (coded i w)) high (omega arith)
        (single_moves t.control.sets i there) tables' met size landed m refl in (
          subst (λ x. (k : ℕ) → k < x.count → ∥ view.Stands x tables' k ∥₁) (sym is) call.0,
          subst (λ x. Built t.control.count (SameResidual t.control.sets (view.says x tables' t.control.count)) (λ w. Singleton (coded i w)) met size t.control t.tables.now x tables') (sym is)
              (subst (λ s. Built t.control.count (SameResidual t.control.sets (answers t.control.sets s (drop (t.control.count * slot t.control) tables'))) (λ w. Singleton (coded i w)) met size t.control t.tables.now m tables')
              (sym call.1.size) call.1),
        )
