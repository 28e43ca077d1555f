-- What the recursive reading of a formula answers.
use Rattle.std.specs.Prelude.{◌≡◌, ℕ, ◌+◌, ◌-◌, ◌*◌, ◌<◌, ◌≤◌, List, [], ◌∷◌, ◌++◌, take, map, length, Some, Ok, Err, Result}
use Rattle.tokens.specs.declared.item.Item.{Item}
use Rattle.grammar.specs.declared.flaw.Flawed.{Flawed}
use Rattle.grammar.specs.declared.plan.Plan.{Plan}
use Rattle.grammar.specs.declared.source.Source.{Source}
use Rattle.grammar.specs.declared.step.Spot.{Spot}
use Rattle.grammar.specs.declared.step.Step.{Step}
use Rattle.grammar.specs.Limits.{most_open}
use Rattle.grammar.specs.Claims.{Claim, spelled, Fits, free as free_of}
use Rattle.grammar.specs.Faults.{formula, fault}
use Rattle.grammar.specs.Steps.{steps as steps_of, step_of, all_steps}
use Rattle.grammar.specs.Sources.{left_of, Faulty}
use Rattle.grammar.specs.Written.{written, Notes, SameBehind}

-- Each item that was read took at most three steps, and the memory has room for three for each item, and for 16 more.
abbrev pub Room : Source → Plan → ℕ → Type 0
Room s p at = (at ≤ length s.items.now) × (p.used ≤ 3 * at) × (3 * length s.items.now + 16 ≤ length p.steps.now) × (p.used ≤ length p.steps.now)

-- A claim was read from `at` on, inside others, where these many letters are bound: up to `next`, with its steps behind those of
-- before, and the variables that stand free in it noted.
pub record ReadsClaim (s : Source) (left depth at : ℕ) (p p' : Plan) (next : ℕ) (f : Claim) : Type 0 where
  pub spells : left_of s at ≡ spelled f (left_of s next)
  pub fits : Fits s.sets (most_open - left) f
  pub steps : written p' ≡ written p ++ steps_of f
  pub free : (spots : List Spot) → Notes p.free spots → Notes p'.free (spots ++ free_of (take depth p.bound) f)
  pub bound : take depth p'.bound ≡ take depth p.bound
  pub room : (next ≤ length s.items.now) × (at < next) × (p'.used + 3 * at ≤ p.used + 3 * next)
      × SameBehind p'.used p.steps.now p'.steps.now × (p'.used ≤ length p'.steps.now) × (p.used ≤ p'.used)

abbrev pub Reads : Source → ℕ → ℕ → ℕ → Plan → Plan → Result ℕ Flawed → Type 0
Reads s left depth at p p' (Ok next) = (f : Claim) × ReadsClaim s left depth at p p' next f
Reads s left depth at p p' (Err e) =
    Faulty s at (formula (most_open - left) ∷ []) e × SameBehind (3 * length s.items.now) p.steps.now p'.steps.now

-- the items are one claim, whose steps are planned from the front on; or they have a fault
abbrev pub PlansFormula : Source → Plan → Plan → Result (Unit {0}) Flawed → Type 0
PlansFormula s p p' (Ok _) =
    SameBehind p'.used p.steps.now p'.steps.now × (p'.used ≤ length p'.steps.now)
    × (f : Claim) × (s.items.now ≡ spelled f []) × Fits s.sets 0 f × (written p' ≡ all_steps s.sets f)
PlansFormula s p p' (Err e) =
    (fault s.sets s.end (formula 0 ∷ []) s.items.now ≡ Some (e.flaw, e.place))
    × SameBehind (3 * length s.items.now) p.steps.now p'.steps.now

-- over n sets, in a text of so many bytes: the items are one claim, whose steps stand at the front of the memory; or they have a fault
abbrev pub ReadsAll : ℕ → ℕ → List Item → List Step → List Step → Result ℕ Flawed → Type 0
ReadsAll n long items old new (Ok k) =
    SameBehind k old new × (k ≤ length new) × (f : Claim) × (items ≡ spelled f []) × Fits n 0 f × (map step_of (take k new) ≡ all_steps n f)
ReadsAll n long items old new (Err e) =
    (fault n long (formula 0 ∷ []) items ≡ Some (e.flaw, e.place)) × SameBehind (3 * length items) old new
