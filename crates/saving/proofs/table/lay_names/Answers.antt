use Rattle.std.proofs.Common.{arith, ◌^◌}
use Rattle.std.proofs.lemmas.Grind.{common_steps}
use Rattle.saving.specs.Laying.{names_of}
use Rattle.saving.proofs.Layings.{lays_then}
use Rattle.saving.proofs.Lines.{names_line_is}
use Rattle.saving.proofs.table.lay_names.Goals as goal

pub returns : goal.returns
returns c =
    rw names_line_is (lays_then (lays_then {ys = names_of (2 ^ c.args.rows.now.places)} c.bytes.ensures (grind (arith, common_steps))) c.bytes-2.ensures)
