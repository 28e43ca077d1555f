-- The formula over numbered sets that a claim is built as.
use Rattle.std.specs.Prelude.{ℕ, zero, suc, cond, ◌⊎◌, List, [], map, Some, None, Option}
use Rattle.words.specs.Formulas.{Formula, placed, single, negation, both, either, hidden, Truth}
use Rattle.grammar.specs.declared.step.Spot.{Spot}
use Rattle.grammar.specs.Claims.{Claim, atom, denial, and, or, implies, some, every, is_position, free}
use Rattle.grammar.specs.Steps.{first_free}

-- a position's set has exactly one member
abbrev pub lone : Spot → Formula → Formula
lone x f = cond (is_position x) (both f (single x.set)) f

abbrev pub formula_of : Claim → Formula
formula_of (atom at p spots) = placed p (map (λ x. x.set) spots)
formula_of (denial at f) = negation (formula_of f)
formula_of (and at f g) = both (formula_of f) (formula_of g)
formula_of (or at f g) = either (formula_of f) (formula_of g)
formula_of (implies at f g) = either (negation (formula_of f)) (formula_of g)
formula_of (some at x f) = hidden x.set (lone x (formula_of f))
formula_of (every at x f) = negation (hidden x.set (lone x (negation (formula_of f))))

abbrev pub lone_at : ℕ → Option ℕ → Formula → Formula
lone_at i (Some at) f = both f (single i)
lone_at i None f = f

-- the sets below k that belong to free positions have one member each
abbrev pub with_positions : ℕ → List Spot → Formula → Formula
with_positions zero spots f = f
with_positions (suc i) spots f = lone_at i (first_free i spots) (with_positions i spots f)

-- the formula of a whole claim over n sets
abbrev pub whole : ℕ → Claim → Formula
whole n f = with_positions n (free [] f) (formula_of f)

-- a formula is true or it is not, whatever the sets are
abbrev pub Decided : (ℕ → List ℕ → Type 0) → Formula → Type 0
Decided holds f = (x : ℕ → ℕ) → Truth holds f x ⊎ (Truth holds f x → ⊥)
