use Rattle.std.proofs.Common.{◌≡◌}
use Rattle.grammar.specs.Claims.{Claim}
use Rattle.grammar.proofs.Positions.{Positioned}
use Rattle.grammar.proofs.planning.plan_formula.Given as goal

abbrev pub invariant-loop-set : goal.invariant-loop-set
invariant-loop-set l =
    (l.plan.steps.ghost_name ≡ l.initial.plan.steps.ghost_name) × (f : Claim) × Positioned l.source l.initial.plan l.set l.plan f
