use Rattle.hiding.proofs.Widening.{widens_out, widens_in}
use Rattle.hiding.proofs.hidden_rows.HiddenRows.widen.Goals as goal
use Rattle.hiding.proofs.hidden_rows.HiddenRows.widen.Goals.{then-joins, else-joins}

pub loop-state-preserved : goal.loop-state-preserved
loop-state-preserved c = elim c.if-joins.branch [
  | then-joins w ↦
      rw (w.set-is, w.insert.ensures, w.widened-is) (widens_in _ _ _ _ _ c.loop-state.invariant c.loop-state-test.true c.joins.result c.joins.ensures w.if-joins.true)
  | else-joins w ↦
      rw (w.set-is, w.widened-is) (widens_out _ _ _ _ _ c.loop-state.invariant c.loop-state-test.true c.joins.result c.joins.ensures w.if-joins.false)
]
