use Rattle.deciding.proofs.Lines.{both}
use Rattle.deciding.proofs.printing.put_next.Goals as goal

pub returns : goal.returns
returns c = both c.put.ensures c.put_column.ensures
