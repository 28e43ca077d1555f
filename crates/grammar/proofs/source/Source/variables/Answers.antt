use Rattle.std.proofs.Common.{arith}
use Rattle.std.proofs.lemmas.Result.{err_from_is_err_and}
use Rattle.grammar.proofs.Several.{later_fault}
use Rattle.grammar.proofs.source.Source.variables.Goals as goal

pub returns-in_err-spots : goal.returns-in_err-spots
returns-in_err-spots c =
    let given = err_from_is_err_and c.from_residual.result c.from_residual.ensures.1 in
    rw (given.1, given.2)
    (later_fault c.args.self.now c.args.at c.loop-i.i c.args.places c.loop-i.spots c.in_err-spots.field-0.0 c.loop-i.invariant
    (omega (arith, c.loop-i-test.true, c.from-i-end.ensures))
    c.requires.few c.in_err-spots.ensures)
