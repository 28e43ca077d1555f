use Rattle.std.proofs.Common.{◌≡◌, ◌^◌, arith, rules}
use Rattle.std.proofs.lemmas.Grind.{common_steps}
use Rattle.tables.proofs.Steps.{row_end}
use Rattle.tables.proofs.exploration.Search.explore_row.Goals as goal

pub returns-clause-extends : goal.returns-clause-extends
returns-clause-extends g c =
    let columns : c.columns-columns.result ≡ 2 ^ c.loop-k.self.limits.sets = rw c.loop-k.invariant.onward.limits c.columns-columns.ensures in
    row_end c.loop-k.self c.args.at (omega (arith, c.loop-k.invariant.onward.met)) c.loop-k.k (omega arith) c.loop-k.invariant.chart
    c.accepts-accepts.result (search (rules, common_steps)) _ (cc)
