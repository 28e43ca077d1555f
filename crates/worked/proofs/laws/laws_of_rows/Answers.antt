use Rattle.worked.proofs.Rows.{worked_rows}
use Rattle.worked.proofs.laws.laws_of_rows.Goals as goal

pub returns : goal.returns
returns c = worked_rows
