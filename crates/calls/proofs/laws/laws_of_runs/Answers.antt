use Rattle.calls.proofs.RunLaws.{run_laws}
use Rattle.calls.proofs.laws.laws_of_runs.Goals as goal

pub returns : goal.returns
returns g c = run_laws (g.B.Book.holds c.args._book.now)
