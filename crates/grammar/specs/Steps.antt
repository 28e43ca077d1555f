-- The steps that build a claim: building calls in their order, each with the place of the text that asks for it.
use Rattle.std.specs.Prelude.{ℕ, zero, suc, cond, ◌&&◌, List, [], ◌∷◌, ◌++◌, map, take, ◌==◌, Some, None, Option}
use Rattle.grammar.specs.declared.step.Build.{Build}
use Rattle.grammar.specs.declared.step.Build.TheVariants.{Place, Single, Negate, Both, Either, Hide}
use Rattle.grammar.specs.declared.step.Step.{Step}
use Rattle.grammar.specs.declared.step.Spot.{Spot}
use Rattle.grammar.specs.Claims.{Claim, atom, denial, and, or, implies, some, every, is_position, free}

-- a building call
pub data Call : Type 0 where
  place : ℕ → List ℕ → Call
  single : ℕ → Call
  negate : Call
  both : Call
  either : Call
  hide : ℕ → Call

-- the call that a step stands for
abbrev pub call_of : Build → Call
call_of (Place p sets places) = place p (take places sets)
call_of (Single i) = single i
call_of Negate = negate
call_of Both = both
call_of Either = either
call_of (Hide i) = hide i

abbrev pub step_of : Step → ℕ × Call
step_of step = (step.place, call_of step.build)

-- a position's set has exactly one member
abbrev pub alone : ℕ → ℕ → List (ℕ × Call)
alone at i = (at, single i) ∷ (at, both) ∷ []

-- a quantifier hides its variable's set, which for a position has exactly one member
abbrev pub hiding : ℕ → Spot → List (ℕ × Call)
hiding at x = cond (is_position x) (alone at x.set) [] ++ (at, hide x.set) ∷ []

-- parts are built left before right, and then their mark; an implication negates its left part before the right is built
abbrev pub steps : Claim → List (ℕ × Call)
steps (atom at p spots) = (at, place p (map (λ x. x.set) spots)) ∷ []
steps (denial at f) = steps f ++ (at, negate) ∷ []
steps (and at f g) = steps f ++ (steps g ++ (at, both) ∷ [])
steps (or at f g) = steps f ++ (steps g ++ (at, either) ∷ [])
steps (implies at f g) = steps f ++ ((at, negate) ∷ (steps g ++ (at, either) ∷ []))
steps (some at x f) = steps f ++ hiding at x
steps (every at x f) = steps f ++ ((at, negate) ∷ (hiding at x ++ (at, negate) ∷ []))

-- where the position that has set i first stands free
abbrev pub first_free : ℕ → List Spot → Option ℕ
first_free i [] = None
first_free i (x ∷ xs) = cond ((x.set == i) && is_position x) (Some x.place) (first_free i xs)

abbrev pub alone_at : ℕ → Option ℕ → List (ℕ × Call)
alone_at i (Some at) = alone at i
alone_at i None = []

-- the steps for the free positions that have sets below k, lowest set first
abbrev pub positions : ℕ → List Spot → List (ℕ × Call)
positions zero spots = []
positions (suc i) spots = positions i spots ++ alone_at i (first_free i spots)

-- the steps for a whole claim over n sets
abbrev pub all_steps : ℕ → Claim → List (ℕ × Call)
all_steps n f = steps f ++ positions n (free [] f)
