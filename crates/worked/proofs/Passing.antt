-- Building calls that pass their checks on the tray of the worked examples.
use Rattle.std.specs.Prelude.{◌⊎◌, List, [], ◌∷◌, slice_index}
use Rattle.std.proofs.Common.{◌≡◌, ℕ, ◌+◌, ◌*◌, ◌^◌, ◌<◌, ◌≤◌, length, sym, refl, ◌∙◌, ⊎_elim, arith}
use Rattle.words.specs.Words.{Columns}
use Rattle.words.specs.Automata.{Automaton}
use Rattle.words.specs.Formulas.{Formula, placed, single, both, hidden}
use Rattle.words.specs.Hiding.{SameBut}
use Rattle.words.specs.Meanings.{SameAfter}
use Rattle.words.specs.Residuals.{MoreThan}
use Rattle.tray.specs.Asked.{SameBookState}
use Rattle.tray.specs.Checks.{AllPass}
use Rattle.books.specs.Standard.{automaton, holds}
use Rattle.grammar.specs.Steps.{place, single as single-call, negate, both as both-call, hide}
use Rattle.reading.specs.Building.{checks}
use Rattle.worked.specs.Rows.{terms}
use Rattle.worked.proofs.Machines.{Machine, Knows, no_more, reader, reads, reader_knows, pairs, pairs_know}
use Rattle.worked.proofs.Gathered.{gathered, gathered_knows}

-- the records and links that are lent suffice
lent_enough : (64 < 64) ⊎ (8 * 64 < 8 * 64) → ⊥
lent_enough short = ⊎_elim (λ h. omega arith) (λ h. omega arith) short

module _ (n : ℕ) (pile : List Formula) (room : length pile < 8) where
  pub place_passes : (p : ℕ) → p < 6 → (listed : List ℕ) → length listed ≡ (automaton p).places → ((j : ℕ) → j < length listed → slice_index listed j < n)
      → (automaton p).states ≤ 64 → AllPass (checks (terms n) holds 0 pile (place p listed))
  place_passes p there listed fits inside few = (
    lent_enough,
    (
      (λ h. omega arith),
      (
        (λ other. other fits),
        (
          (λ h. let below = inside h.0 h.1 in let past = h.2 in omega arith),
          (
            (λ h. omega arith),
            (
              no_more (reader n p listed there fits) (SameBookState (automaton p) listed)
                  (λ u w cu cw e. sym (reads n p listed there fits u) ∙ e ∙ reads n p listed there fits w) 64 few,
              tt,
            ),
          ),
        ),
      ),
    ),
  )

  pub single_passes : (i : ℕ) → i < n → AllPass (checks (terms n) holds 0 pile (single-call i))
  single_passes i inside =
      let reader_of_one = reader n 1 (i ∷ []) (omega arith) refl in (
        (λ h. omega arith),
        (
          (λ h. omega arith),
          (no_more reader_of_one (SameAfter n holds (single i)) (reader_knows n 1 (i ∷ []) (omega arith) refl) 64 (omega arith), tt),
        ),
      )

-- the two upper formulas, known by a machine each
pub both_passes : (n : ℕ) (f g : Formula) {k l : ℕ} (left : Machine n k) (right : Machine n l)
    → Knows left (SameAfter n holds f) → Knows right (SameAfter n holds g) → k * l ≤ 64
    → AllPass (checks (terms n) holds 0 (g ∷ (f ∷ [])) both-call)
both_passes n f g left right one other few = (
  lent_enough,
  (
    (λ h. omega arith),
    (
      no_more (pairs left right) (λ u w. SameAfter n holds f u w × SameAfter n holds g u w)
          (pairs_know left right (SameAfter n holds f) (SameAfter n holds g) one other) 64 few,
      tt,
    ),
  ),
)

-- the top formula, known by a machine
pub hide_passes : (n i : ℕ) → i < n → (f : Formula) {k : ℕ} (m : Machine n k) → Knows m (SameAfter n holds f) → 2 ^ k ≤ 64
    → AllPass (checks (terms n) holds 0 (f ∷ []) (hide i))
hide_passes n i inside f m knows few = (
  lent_enough,
  (
    (λ h. omega arith),
    (
      (λ h. omega arith),
      (no_more (gathered m i inside) (SameBut n i (SameAfter n holds f)) (gathered_knows m i inside (SameAfter n holds f) knows) 64 few, tt),
    ),
  ),
)

pub negate_passes : (n : ℕ) (f : Formula) → AllPass (checks (terms n) holds 0 (f ∷ []) negate)
negate_passes n f = ((λ h. omega arith), tt)
