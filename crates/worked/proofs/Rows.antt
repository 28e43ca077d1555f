-- The worked examples, put together.
use Rattle.worked.specs.Rows.{rows, RowHolds, WorkedRows}
use Rattle.worked.proofs.Atoms.{sub_row, one_row, suc_row, sum_row}
use Rattle.worked.proofs.Lists.{all_of}
use Rattle.worked.proofs.Quantified.{some_sum_row, some_every_row, every_some_row}
use Rattle.worked.proofs.Two.{two_row}

pub worked_rows : WorkedRows
worked_rows =
    all_of RowHolds rows
    (sub_row, (one_row, (suc_row, (sum_row, (some_sum_row, (two_row, (some_every_row, (every_some_row, tt))))))))
