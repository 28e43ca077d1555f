use Rattle.std.proofs.Common.{◌≤◌, length, map, decimal, refl, arith}
use Rattle.saving.specs.TableText.{line_of}
use Rattle.saving.proofs.Layings.{whole_end, whole_fits}
use Rattle.saving.proofs.line.write_line.Goals as goal

pub returns-then-buffer-lay_line : goal.returns-then-buffer-lay_line
returns-then-buffer-lay_line c = (omega (arith, whole_end (line_of (map decimal c.args.values.now)) _ _ _ c.lay_line.ensures), refl)

pub returns : goal.returns
returns c =
    let text = line_of (map decimal c.args.values.now) in
    let room : length text ≤ length c.args.buffer.now = omega (arith, whole_end text _ _ _ c.lay_line.ensures) in
    whole_fits text _ _ _ c.lay_line-2.ensures (omega arith) room
