use Rattle.std.proofs.Common.{rules}
use Rattle.hiding.proofs.Widening.{closing_all}
use Rattle.hiding.proofs.hidden_rows.HiddenRows.closing_set.Goals as goal

pub returns : goal.returns
returns c = search (rules, closing_all)
