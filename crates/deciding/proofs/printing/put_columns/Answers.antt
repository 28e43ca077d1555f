use Rattle.deciding.proofs.Lines.{nothing_put, next_column, all_columns}
use Rattle.deciding.proofs.printing.put_columns.Goals as goal

pub loop-column-init : goal.loop-column-init
loop-column-init c = nothing_put c.put_column.ensures

pub loop-column-preserved : goal.loop-column-preserved
loop-column-preserved c =
    next_column c.in-Some.rest.now c.put_column.new.lines.items c.loop-column.lines.items c.put_next.new.lines.items c.loop-column.column-index
    c.loop-column-test.true c.loop-column.invariant c.put_next.ensures

pub returns : goal.returns
returns c =
    all_columns c.args.columns.now c.in-Some.rest.now c.args.lines.now.items c.put_column.new.lines.items c.loop-column.lines.items c.in-Some.first.now
    c.loop-column.column-index c.in-Some.ensures.cases.0 c.requires c.loop-column-test.false c.loop-column.auto.column-index-end c.put_column.ensures
    c.loop-column.invariant
