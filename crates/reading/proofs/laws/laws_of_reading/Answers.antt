use Rattle.reading.proofs.OneAnswer.{reading_laws}
use Rattle.reading.proofs.laws.laws_of_reading.Goals as goal

pub returns : goal.returns
returns g c =
    let book = c.args._book.now in
    reading_laws (g.B.NamedBook.numbered book) (g.B.Book.size book) (g.B.Book.automaton book) (g.B.Book.holds book)
