use Rattle.std.proofs.Common.{◌≤◌}
use Rattle.tray.specs.Memory.{SameMemory}
use Rattle.reading.proofs.Dropping.{Lowered}
use Rattle.reading.proofs.building.drop_to.Given as goal

abbrev pub invariant-loop-tray : goal.invariant-loop-tray
invariant-loop-tray l =
    SameMemory l.initial.tray l.tray
    × (l.count ≤ l.initial.tray.control.count → Lowered l.count l.initial.tray.control l.initial.tray.tables.now l.tray.control l.tray.tables.now)

abbrev pub decreases-loop-tray : goal.decreases-loop-tray
decreases-loop-tray l = l.tray.control.count
