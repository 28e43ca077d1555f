use Rattle.std.proofs.Common.{◌≤◌, length, refl, arith}
use Rattle.saving.specs.Saved.{rows_text}
use Rattle.saving.proofs.Layings.{whole_end, whole_fits}
use Rattle.saving.proofs.table.save_rows.Goals as goal

pub returns-then-buffer-lay_table : goal.returns-then-buffer-lay_table
returns-then-buffer-lay_table c = (
  omega arith,
  omega (arith, whole_end (rows_text c.args.rows.now) _ _ _ c.lay_table.ensures),
  refl,
)

pub returns : goal.returns
returns c =
    let text = rows_text c.args.rows.now in
    let room : length text ≤ length c.args.buffer.now = omega (arith, whole_end text _ _ _ c.lay_table.ensures) in
    let fits = whole_fits text _ _ _ c.lay_table-2.ensures (omega arith) room in
    (omega arith, fits)
