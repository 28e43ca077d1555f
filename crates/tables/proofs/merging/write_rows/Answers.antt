use Rattle.std.proofs.Common.{arith}
use Rattle.tables.proofs.Writing.{wrote_more}
use Rattle.tables.proofs.merging.write_rows.Goals as goal

pub loop-j-preserved : goal.loop-j-preserved
loop-j-preserved c =
    wrote_more _ _ c.width-width.ensures c.loop-j.invariant c.write_row.ensures (omega (arith, c.write_row.auto.row, c.width-width.ensures)) c.loop-j-test.true (omega (arith, c.requires, c.loop-j.auto.out))
