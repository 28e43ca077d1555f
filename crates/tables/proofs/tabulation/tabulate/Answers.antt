use Rattle.std.proofs.Common.{drop}
use Rattle.words.specs.Automata.{language}
use Rattle.words.specs.TableOf.{TableOf}
use Rattle.words.proofs.TableLaws.{table_counts}
use Rattle.tables.proofs.TableFrom.{table_from}
use Rattle.tables.proofs.tabulation.tabulate.Goals as goal

pub returns-clause-found : goal.returns-clause-found
returns-clause-found g c =
    let m = g.K.Kind.moves c.args.kind.now in
    let found = c.in_ok-met.ensures.found in
    let table : TableOf c.args.limits.sets (language m) (drop c.args.base c.merge_rows-kept.new.tables) c.merge_rows-kept.result =
    table_from m c.args.limits.sets c.in_ok-met.met c.explore.new.memory.records.now c.explore.new.memory.links.now c.explore.new.memory.rows.now found.2
    c.merge_rows-kept.result (drop c.args.base c.merge_rows-kept.new.tables) c.merge_rows-kept.ensures.merged in (
      (c.has_room.ensures.0 c.if-not-has_room.false, c.has_slot.ensures.0 c.if-not-has_slot.false),
      found.1,
      c.merge_rows-kept.ensures.few,
      found.3,
      table,
      table_counts c.args.limits.sets (language m) (drop c.args.base c.merge_rows-kept.new.tables) c.merge_rows-kept.result table,
      c.merge_rows-kept.ensures.elsewhere,
    )
