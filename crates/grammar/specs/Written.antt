-- What a plan holds, and what is added to it.
use Rattle.std.specs.Prelude.{◌≡◌, ℕ, ◌+◌, ◌<◌, ◌≤◌, List, [], ◌∷◌, ◌++◌, take, length, map, drop, Option, slice_index_or, None}
use Rattle.grammar.specs.declared.plan.Plan.{Plan}
use Rattle.grammar.specs.declared.source.Connective.{Connective}
use Rattle.grammar.specs.declared.source.Connective.TheVariants.{Both as both-parts, Either as either-part, Implies as implied-part}
use Rattle.grammar.specs.declared.source.Quantifier.{Quantifier}
use Rattle.grammar.specs.declared.source.Quantifier.TheVariants.{Some as for-some, Every as for-every}
use Rattle.grammar.specs.declared.step.Spot.{Spot}
use Rattle.grammar.specs.declared.step.Step.{Step}
use Rattle.grammar.specs.Limits.{most_sets}
use Rattle.grammar.specs.Steps.{Call, negate, both, either, step_of, hiding, first_free}

-- the steps of a plan
abbrev pub written : Plan → List (ℕ × Call)
written p = map step_of (take p.used p.steps.now)

-- the places where positions first stand free, set by set, among these variables
abbrev pub Notes : List (Option ℕ) → List Spot → Type 0
Notes noted spots = (i : ℕ) → i < most_sets → slice_index_or noted i None ≡ first_free i spots

-- memory for steps is as long as it was, and holds what it held behind its first k steps
pub record SameBehind (k : ℕ) (old new : List Step) : Type 0 where
  pub long : length new ≡ length old
  pub behind : drop k new ≡ drop k old

-- steps are added, each in the next place of the memory, and what is behind them stays
abbrev pub Longer : Plan → Plan → List (ℕ × Call) → Type 0
Longer p p' more =
    (written p' ≡ written p ++ more) × (p'.used ≡ p.used + length more) × SameBehind p'.used p.steps.now p'.steps.now
    × (p'.used ≤ length p'.steps.now)

-- and nothing else changes
abbrev pub Writes : Plan → Plan → List (ℕ × Call) → Type 0
Writes p p' more = Longer p p' more × (p'.bound ≡ p.bound) × (p'.free ≡ p.free)

-- steps are added, and variables that stand free
abbrev pub Adds : Plan → Plan → List (ℕ × Call) → List Spot → Type 0
Adds p p' more freed = Longer p p' more × (p'.bound ≡ p.bound) × ((spots : List Spot) → Notes p.free spots → Notes p'.free (spots ++ freed))

-- the steps of connectives and quantifiers, behind those of their parts
abbrev pub between : ℕ → Connective → List (ℕ × Call)
between at both-parts = []
between at either-part = []
between at implied-part = (at, negate) ∷ []

abbrev pub joined_by : ℕ → Connective → List (ℕ × Call)
joined_by at both-parts = (at, both) ∷ []
joined_by at either-part = (at, either) ∷ []
joined_by at implied-part = (at, either) ∷ []

abbrev pub quantified : ℕ → Quantifier → Spot → List (ℕ × Call)
quantified at for-some x = hiding at x
quantified at for-every x = (at, negate) ∷ (hiding at x ++ (at, negate) ∷ [])
