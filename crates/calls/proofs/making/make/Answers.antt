use Rattle.calls.specs.Buffers.{held}
use Rattle.calls.specs.Lent.{lent_by}
use Rattle.calls.proofs.Feeding.{continues}
use Rattle.calls.proofs.making.make.Goals as goal

pub returns-clause-step : goal.returns-clause-step
returns-clause-step g c =
    continues (lent_by g.row.STATES g.row.PAIRS g.row.SETS g.row.LINKS) (g.B.Book.size c.args.book.now) (g.B.Book.automaton c.args.book.now)
    (g.B.Book.holds c.args.book.now) c.args.call c.args.tray.now.control c.args.tray.now.tables.now (held c.args.output.now)
    c.ask.new.tray.control c.ask.new.tray.tables.now (held c.ask.new.output) c.ask.result c.ask.ensures.makes
