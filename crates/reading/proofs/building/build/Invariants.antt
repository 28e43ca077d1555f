use Rattle.std.proofs.Common.{◌≡◌}
use Rattle.calls.specs.Lent.{lent_by}
use Rattle.tray.specs.Memory.{SameMemory}
use Rattle.reading.proofs.Stepping.{Come}
use Rattle.reading.proofs.building.build.Given as goal

-- where each step finds enough, the tray holds the pile that the steps so far have made
abbrev pub invariant-loop-step : goal.invariant-loop-step
invariant-loop-step g l =
    SameMemory l.initial.tray l.tray
    × (l.below ≡ l.initial.tray.control.count)
    × Come (lent_by g.row.STATES g.row.PAIRS g.row.SETS g.row.LINKS) (g.B.Book.size l.book) (g.B.Book.automaton l.book) (g.B.Book.holds l.book) l.steps l.initial.tray.control l.initial.tray.tables.now
    l.step-index l.tray.control l.tray.tables.now l.counts
