use Rattle.std.proofs.Common.{[], ◌∷◌, ◌++◌, subst, sym}
use Rattle.grammar.specs.Steps.{negate, hiding}
use Rattle.grammar.specs.Written.{Writes, quantified}
use Rattle.grammar.proofs.Keeping.{writes_then}
use Rattle.grammar.proofs.plan.Plan.quantify.Goals as goal

pub returns-in-Every-clause-writes : goal.returns-in-Every-clause-writes
returns-in-Every-clause-writes c =
    let p = c.args.self.now in
    let q = c.push-in-Every.new.self in
    let at = c.args.place in
    subst (λ quantifier. Writes p q (quantified at quantifier c.args.variable)) (sym c.in-Every.is)
    (writes_then p c.push.new.self q ((at, negate) ∷ []) (hiding at c.args.variable ++ (at, negate) ∷ []) c.push.ensures.writes
    (writes_then c.push.new.self c.hide-in-Every.new.self q (hiding at c.args.variable) ((at, negate) ∷ []) c.hide-in-Every.ensures.writes
    c.push-in-Every.ensures.writes))
