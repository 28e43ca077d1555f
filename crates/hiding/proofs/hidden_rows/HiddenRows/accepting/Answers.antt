use Rattle.std.proofs.Common.{arith}
use Rattle.hiding.proofs.Widening.{marked_none, marked_in, marked_out}
use Rattle.hiding.proofs.hidden_rows.HiddenRows.accepting.Goals as goal

pub loop-state-init : goal.loop-state-init
loop-state-init c = rw c.empty-marked.ensures (marked_none c.args.self.now)

pub loop-state-preserved : goal.loop-state-preserved
loop-state-preserved c = grind (arith, marked_in, marked_out)
