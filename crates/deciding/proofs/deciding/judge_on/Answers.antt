use Rattle.deciding.proofs.Judging.{judges_on}
use Rattle.deciding.proofs.deciding.judge_on.Goals as goal

pub returns : goal.returns
returns g c =
    let book = c.args.book.now in
    judges_on (g.B.NamedBook.numbered book) (g.B.Book.size book) (g.B.Book.automaton book) (g.B.Book.holds book) c.args.text.now c.args.tray.now.control
    c.args.tray.now.tables.now c.read.new.tray.control c.read.new.tray.tables.now c.args.tray.now.few_sets c.in_ok-read.field-0 c.in_ok-read.ensures.reads
    c.judge_top.result c.judge_top.ensures
