use Rattle.std.proofs.Common.{◌≤◌, length, arith}
use Rattle.judging.proofs.Walks.{writing_more, writing_end}
use Rattle.judging.proofs.walk.write_word.Goals as goal

pub loop-k-preserved : goal.loop-k-preserved
loop-k-preserved c =
    let room : c.args.count ≤ length c.loop-k.buffer = omega (arith, c.requires.room, c.loop-k.auto.buffer) in (
      (tt, tt),
      tt,
      writing_more c.args.rows.now c.args.state c.args.count c.args.buffer.now c.loop-k.buffer room _ _ c.loop-k.invariant.2 c.in-Some.k c.in-Some.link
          c.in-Some.ensures.steps,
    )

pub returns : goal.returns
returns c =
    let room : c.args.count ≤ length c.loop-k.buffer = omega (arith, c.requires.room, c.loop-k.auto.buffer) in
    writing_end c.args.rows.now c.args.state c.args.count c.args.buffer.now c.loop-k.buffer room _ c.next.new.self c.loop-k.invariant.2 c.in-None.ensures.steps
