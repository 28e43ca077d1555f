use Rattle.std.proofs.Common.{◌≡◌, List, [], take}
use Rattle.words.specs.Formulas.{Formula}
use Rattle.tray.specs.Memory.{SameMemory}
use Rattle.calls.specs.Buffers.{held}
use Rattle.calls.specs.Lent.{lent_by}
use Rattle.calls.specs.Owed.{Fed}
use Rattle.calls.specs.Promise.{StandsFor, settings_of, terms}
use Rattle.calls.proofs.running.replay.Given as goal

-- the calls so far have fed a pile, and the tray holds its tables
abbrev pub invariant-loop-call : goal.invariant-loop-call
invariant-loop-call g l =
    SameMemory l.initial.tray l.tray
    × (pile : List Formula)
    × Fed (terms l.fn.settings (lent_by g.row.STATES g.row.PAIRS g.row.SETS g.row.LINKS) (g.B.Book.size l.book) (g.B.Book.automaton l.book)) (g.B.Book.holds l.book)
    (record { pile = []; buffers = held l.initial.output }) (take l.call-index l.calls) (record { pile = pile; buffers = held l.output })
    × (settings_of l.tray.control ≡ l.fn.settings)
    × StandsFor (g.B.Book.holds l.book) l.tray.control l.tray.tables.now pile
