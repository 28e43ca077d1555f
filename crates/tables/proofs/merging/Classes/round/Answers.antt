use Rattle.tables.proofs.Lows.{refines_more}
use Rattle.tables.proofs.merging.Classes.round.Goals as goal

pub loop-column-preserved : goal.loop-column-preserved
loop-column-preserved c = refines_more c.loop-column.invariant c.pass-refined.ensures
