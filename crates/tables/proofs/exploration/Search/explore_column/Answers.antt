use Rattle.tables.proofs.Steps.{column_step}
use Rattle.tables.proofs.exploration.Search.explore_column.Goals as goal

pub returns-clause-extends : goal.returns-clause-extends
returns-clause-extends g c =
    column_step c.args.self.now c.args.at c.args.k c.requires.chart c.requires.here c.requires.left c.nth_column-column.result c.nth_column-column.ensures
    c.follow.new.self c.in_ok-to.ensures.onward c.in_ok-to.to c.in_ok-to.ensures.follows _ (cc)
