use Rattle.returning.proofs.Returned.{loaded_laws}
use Rattle.returning.proofs.laws.laws_of_loaded.Goals as goal

pub returns : goal.returns
returns g c = loaded_laws (g.B.Book.holds c.args._book.now) c.args._loaded.now
