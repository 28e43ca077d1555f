use Rattle.tray.proofs.Telling.{formula_laws}
use Rattle.tray.proofs.laws.laws_of_formulas.Goals as goal

pub returns : goal.returns
returns g c = formula_laws (g.B.Book.holds c.args._book.now)
