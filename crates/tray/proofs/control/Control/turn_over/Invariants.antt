use Rattle.std.proofs.Common.{◌*◌}
use Rattle.tray.specs.Flipped.{Flipped}
use Rattle.tray.specs.View.{slot}
use Rattle.tray.proofs.control.Control.turn_over.Given as goal

abbrev pub invariant-loop-row : goal.invariant-loop-row
invariant-loop-row l = Flipped l.self.sets (l.k * slot l.self) l.row l.initial.tables l.tables
