use Rattle.std.proofs.Common.{◌≤◌, length, refl, inr, arith}
use Rattle.saving.specs.TableText.{names_line}
use Rattle.saving.proofs.Layings.{whole_end, whole_fits}
use Rattle.saving.proofs.line.write_names.Goals as goal

pub returns-then-buffer-lay_names_alone : goal.returns-then-buffer-lay_names_alone
returns-then-buffer-lay_names_alone c = (inr (omega (arith, whole_end (names_line c.args.places) _ _ _ c.lay_names_alone.ensures)), refl)

pub returns : goal.returns
returns c =
    let text = names_line c.args.places in
    let room : length text ≤ length c.args.buffer.now = omega (arith, whole_end text _ _ _ c.lay_names_alone.ensures) in
    (omega arith, whole_fits text _ _ _ c.lay_names_alone-2.ensures (omega arith) room)
