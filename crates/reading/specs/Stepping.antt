-- What making steps on a tray does, one by one and all of them.
use Rattle.std.specs.Prelude.{◌≡◌, ℕ, ◌+◌, ◌-◌, ◌*◌, ◌<◌, ◌≤◌, List, [], ◌∷◌, take, map, length, All, Ok, Err, Result, slice_index}
use Rattle.words.specs.Automata.{Automaton}
use Rattle.words.specs.Formulas.{Formula, placed, single, negation, both, either, hidden}
use Rattle.words.specs.Meanings.{SameAfter}
use Rattle.words.specs.Residuals.{Count}
use Rattle.tables.specs.declared.pairs.Join.TheVariants.{Both as both-join, Either as either-join}
use Rattle.tray.specs.Building.{SameSettings, SameTables}
use Rattle.tray.specs.Calls.{Places, Singles, Negates, JoinsTables, HidesTop}
use Rattle.tray.specs.Refusals.{number_of}
use Rattle.tray.specs.View.{slot, says}
use Rattle.tray.specs.declared.control.Control.{Control}
use Rattle.tray.specs.declared.refusal.Refusal.{Refusal}
use Rattle.calls.specs.Lent.{Lent}
use Rattle.calls.specs.Owed.{Terms}
use Rattle.calls.specs.Pile.{SameMet}
use Rattle.calls.specs.Promise.{TellEach}
use Rattle.grammar.specs.declared.step.Build.{Build}
use Rattle.grammar.specs.declared.step.Build.TheVariants.{Place, Single, Negate, Both, Either, Hide}
use Rattle.grammar.specs.declared.step.Step.{Step}
use Rattle.grammar.specs.Steps.{Call, place, single as single-call, negate, both as both-call, either as either-call, hide, step_of}
use Rattle.reading.specs.Building.{puts, AllMade, RefusedAt}
use Rattle.reading.specs.Formulas.{Decided}
use Rattle.reading.specs.declared.fault.Fault.{Fault}
use Rattle.reading.specs.declared.fault.Reason.TheVariants.{Call as call}

-- the tray's call of that name answers, with the memory that is lent
abbrev pub Steps : Lent → ℕ → (ℕ → Automaton) → (ℕ → List ℕ → Type 0) → Build → Control → List ℕ → Control → List ℕ → Result (ℕ × ℕ) Refusal → Type 0
Steps lent size a holds (Place p sets places) c tables c' tables' r =
    Places lent.states lent.links size p (a p) (holds p) (take places sets) c tables c' tables' r
Steps lent size a holds (Single i) c tables c' tables' r = Singles i c tables c' tables' r
Steps lent size a holds Negate c tables c' tables' r = Negates c tables c' tables' r
Steps lent size a holds Both c tables c' tables' r = JoinsTables both-join lent.pairs lent.links c tables c' tables' r
Steps lent size a holds Either c tables c' tables' r = JoinsTables either-join lent.pairs lent.links c tables c' tables' r
Steps lent size a holds (Hide i) c tables c' tables' r = HidesTop lent.sets lent.links i c tables c' tables' r

-- the lowest tables are left, as they were
abbrev pub Leaves : ℕ → Control → List ℕ → Control → List ℕ → Type 0
Leaves count c tables c' tables' =
    SameSettings c c' × (c'.count ≡ count) × SameTables count c tables c' tables' × (tables' ≡ tables)

-- no number of the lowest slots has changed
abbrev pub SameBelow : ℕ → Control → List ℕ → List ℕ → Type 0
SameBelow below c tables tables' = (x : ℕ) → x < below * slot c → slice_index tables' x ≡ slice_index tables x

-- the tray holds the tables that it held, and in their slots no number has changed
abbrev pub SameTray : Control → List ℕ → Control → List ℕ → Type 0
SameTray c tables c' tables' =
    SameSettings c c' × (c'.count ≡ c.count) × SameTables c.count c tables c' tables' × SameBelow c.count c tables tables'

-- what making steps on this tray goes by
abbrev pub terms_of : Control → Lent → ℕ → (ℕ → Automaton) → Terms
terms_of c lent size a = record { sets = c.sets; budget = c.budget; depth = c.depth; lent = lent; size = size; automaton = a }

-- so is each part of a formula
abbrev pub Sure : (ℕ → List ℕ → Type 0) → Formula → Type 0
Sure holds (placed p listed) = Decided holds (placed p listed)
Sure holds (single i) = Decided holds (single i)
Sure holds (negation f) = Decided holds (negation f) × Sure holds f
Sure holds (both f g) = Decided holds (both f g) × Sure holds f × Sure holds g
Sure holds (either f g) = Decided holds (either f g) × Sure holds f × Sure holds g
Sure holds (hidden i f) = Decided holds (hidden i f) × Sure holds f

-- Above the lowest `below` tables, which are as they were, the tray holds those of the formulas of a pile.
pub record StandsAbove (holds : ℕ → List ℕ → Type 0) (below : ℕ) (c : Control) (tables : List ℕ) (c' : Control) (tables' : List ℕ) (pile : List Formula)
    : Type 0 where
  pub settings : SameSettings c c'
  pub count : c'.count ≡ below + length pile
  pub others : SameTables below c tables c' tables'
  pub memory : SameBelow below c tables tables'
  pub tells : TellEach c.sets holds (λ k. says c' tables' (below + k)) pile
  pub sure : All (Sure holds) pile

-- how many formulas a call takes from the pile
abbrev pub takes : Call → ℕ
takes (place p listed) = 0
takes (single-call i) = 0
takes negate = 1
takes both-call = 2
takes either-call = 2
takes (hide i) = 1

-- each step finds enough formulas on a pile of so many
abbrev pub Enough : ℕ → List (ℕ × Call) → Type 0
Enough k [] = Unit {0}
Enough k (step ∷ steps) = (takes step.1 ≤ k) × Enough (k - takes step.1 + 1) steps

-- the pile after steps
abbrev pub pile_after : List Formula → List (ℕ × Call) → List Formula
pile_after pile [] = pile
pile_after pile (step ∷ steps) = pile_after (puts step.1 pile) steps

-- met and kept of the formula on top
abbrev pub Counted : Terms → (ℕ → List ℕ → Type 0) → List Formula → ℕ × ℕ → Type 0
Counted t holds [] counts = Unit {0}
Counted t holds (f ∷ pile) counts = Count t.sets (SameMet t.sets t.automaton holds f) counts.0 × Count t.sets (SameAfter t.sets holds f) counts.1

-- Where each step finds enough on the pile: all are made, and the tray holds what they make above its tables; or one is refused, and
-- the tray is as it was.
abbrev pub MakesSteps : Lent → ℕ → (ℕ → Automaton) → (ℕ → List ℕ → Type 0) → List Step → Control → List ℕ → Control → List ℕ → Result (ℕ × ℕ) Fault → Type 0
MakesSteps lent size a holds steps c tables c' tables' (Ok counts) =
    Enough 0 (map step_of steps)
    → AllMade (terms_of c lent size a) holds c.count [] (map step_of steps)
    × StandsAbove holds c.count c tables c' tables' (pile_after [] (map step_of steps))
    × Counted (terms_of c lent size a) holds (pile_after [] (map step_of steps)) counts
MakesSteps lent size a holds steps c tables c' tables' (Err e) =
    Enough 0 (map step_of steps)
    → (why : Refusal) × (e.reason ≡ call why)
    × RefusedAt (terms_of c lent size a) holds c.count [] (map step_of steps) (number_of why) e.place
    × SameTray c tables c' tables'
