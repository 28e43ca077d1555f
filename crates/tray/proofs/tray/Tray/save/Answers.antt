use Rattle.std.proofs.Common.{◌-◌, ◌≤◌, arith}
use Rattle.words.specs.TableOf.{TableOf}
use Rattle.tray.specs.declared.tray.Tray.{Tray}
use Rattle.tray.specs.View.{size_of, rows_of, says}
use Rattle.tray.proofs.Recovering.{table_in}
use Rattle.tray.proofs.tray.Tray.save.Goals as goal

-- the top is a table, where there is one
top_table : (t : Tray) → 1 ≤ t.control.count
    → TableOf t.control.sets (says t.control t.tables.now (t.control.count - 1)) (rows_of t.control t.tables.now (t.control.count - 1)) (size_of t.control (t.control.count - 1))
top_table t some = table_in t.control t.tables.now (t.control.count - 1) (t.live (t.control.count - 1) (omega arith))

pub returns-then-control-gt-MOST_SETS-clause-table : goal.returns-then-control-gt-MOST_SETS-clause-table
returns-then-control-gt-MOST_SETS-clause-table c = top_table c.args.self.now

pub returns-in_err-save_rows-clause-table : goal.returns-in_err-save_rows-clause-table
returns-in_err-save_rows-clause-table c = top_table c.args.self.now

pub returns-clause-table : goal.returns-clause-table
returns-clause-table c = top_table c.args.self.now
