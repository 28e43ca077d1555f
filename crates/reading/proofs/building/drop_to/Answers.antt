use Rattle.std.proofs.Common.{◌<◌, arith}
use Rattle.tray.proofs.Memories.{same_memory, same_memory_chain}
use Rattle.reading.proofs.Dropping.{lowered_start, lowered_ends, lowered_more, drop_smaller}
use Rattle.reading.proofs.building.drop_to.Goals as goal

pub loop-tray-init : goal.loop-tray-init
loop-tray-init c = (same_memory c.args.tray.now, lowered_start c.args.count c.args.tray.now.control c.args.tray.now.tables.now)

pub loop-tray-smaller : goal.loop-tray-smaller
loop-tray-smaller c =
    let more : c.args.count < c.loop-tray.tray.control.count = omega arith in
    drop_smaller c.args.count _ _ _ _ more c.drop.result c.drop.ensures.drops

pub loop-tray-preserved : goal.loop-tray-preserved
loop-tray-preserved c =
    let more : c.args.count < c.loop-tray.tray.control.count = omega arith in
    let before = c.loop-tray.invariant in (
      same_memory_chain c.args.tray.now c.loop-tray.tray c.drop.new.self before.0 c.drop.ensures.owners,
      (λ h. lowered_more c.args.count _ _ _ _ more _ _ c.drop.result c.drop.ensures.drops (before.1 h)),
    )

pub returns-after-loop-tray-clause-leaves : goal.returns-after-loop-tray-clause-leaves
returns-after-loop-tray-clause-leaves c =
    λ h. lowered_ends c.args.count c.args.tray.now.control c.args.tray.now.tables.now c.loop-tray.tray.control c.loop-tray.tray.tables.now
    (omega arith) (c.loop-tray.invariant.1 h)

pub returns-after-loop-tray-clause-owners : goal.returns-after-loop-tray-clause-owners
returns-after-loop-tray-clause-owners c = c.loop-tray.invariant.0
