use Rattle.std.proofs.Common.{length}
use Rattle.calls.specs.Buffers.{held}
use Rattle.returning.proofs.Returned.{run_replies, same_bytes}
use Rattle.returning.proofs.again.save_again.Goals as goal

pub returns-clause-replies : goal.returns-clause-replies
returns-clause-replies g c =
    run_replies g.row.STATES c.args.budget c.load.new.place (length c.args.tray.now.spare.now) c.args.tray.now.control c.args.tray.now.tables.now (held c.args.output.now)
    c.place_and_save.new.tray.control c.place_and_save.new.tray.tables.now (held c.place_and_save.new.output) c.in_ok-place_and_save.field-0
    c.in_ok-place_and_save.ensures.saves

pub returns-clause-same : goal.returns-clause-same
returns-clause-same g c =
    same_bytes g.row.STATES c.args.budget c.load.new.place c.args.text.now c.args.output.now.text c.place_and_save.new.output.text c.in_ok-load.ensures.same
    c.in_ok-place_and_save.field-0 (returns-clause-replies g c)
