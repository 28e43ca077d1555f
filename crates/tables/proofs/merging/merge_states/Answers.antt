use Rattle.std.proofs.Common.{length, ◌∙◌, arith}
use Rattle.tables.proofs.Merges.{merged}
use Rattle.tables.proofs.Writing.{after_all}
use Rattle.tables.proofs.merging.merge_states.Goals as goal

pub returns-clause-merged : goal.returns-clause-merged
returns-clause-merged c =
    let leaders = c.number-leaders.result.now in
    rw (after_all c.args.out.now c.write_rows.new.out c.args.base (omega (arith, c.requires.slot)) (omega (arith, c.write_rows.auto.out)))
    (merged c.refine.new.self c.number-leaders.new.numbers leaders (length leaders) c.refine.ensures.settled c.number-leaders.ensures
    (c.refine.ensures.rows ∙ c.by_mark-classes.ensures) c.write_rows.ensures)
