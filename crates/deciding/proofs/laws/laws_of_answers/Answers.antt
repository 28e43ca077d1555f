use Rattle.deciding.proofs.AnswerLaws.{answer_laws}
use Rattle.deciding.proofs.laws.laws_of_answers.Goals as goal

pub returns : goal.returns
returns g c =
    let book = c.args._book.now in
    answer_laws (g.B.NamedBook.numbered book) (g.B.Book.size book) (g.B.Book.automaton book) (g.B.Book.holds book)
