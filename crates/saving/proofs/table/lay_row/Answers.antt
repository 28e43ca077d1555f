use Rattle.std.proofs.Common.{arith}
use Rattle.std.proofs.lemmas.Grind.{common_steps}
use Rattle.saving.proofs.Layings.{lays_then}
use Rattle.saving.proofs.Lines.{row_line_is}
use Rattle.saving.proofs.table.lay_row.Goals as goal

pub returns : goal.returns
returns c =
    rw row_line_is (lays_then (lays_then (lays_then (lays_then c.number.ensures c.byte.ensures) (grind (arith, common_steps))) c.lay_nexts.ensures) c.byte-2.ensures)
