use Rattle.std.proofs.Common.{sym, ap, subst, ◌∙◌, arith, slice_index}
use Rattle.words.specs.Described.{described}
use Rattle.words.proofs.Merging.{Lowest, Alike}
use Rattle.tables.specs.Classing.{Classed}
use Rattle.tables.proofs.Lows.{more_set, pass_classed, pass_refines, same_unless}
use Rattle.tables.proofs.merging.Classes.pass.Goals as goal

pub loop-s-preserved : goal.loop-s-preserved
loop-s-preserved c =
    let k = c.args.self.now in
    let low = rw (c.loop-s.invariant.0, c.loop-s.invariant.1) at c.lowest_alike.ensures in (
      c.loop-s.invariant.0,
      c.loop-s.invariant.1,
      rw c.from.ensures
          (more_set (λ s. Lowest (Alike (described k.rows).step (slice_index k.class.now) c.args.column s)) c.loop-s.self.fresh.now c.loop-s.s c.lowest_alike.result
          (omega (arith, c.loop-s.self.room.1, ap (λ r. r.states) c.loop-s.invariant.0)) c.loop-s.invariant.2 low),
    )

pub invariant_of-self-then-split-clause-classed : goal.invariant_of-self-then-split-clause-classed
invariant_of-self-then-split-clause-classed c =
    let k = c.args.self.now in
    subst (Classed c.loop-s.self.rows) (sym c.copy_from_slice.ensures.after)
    (subst (λ r. Classed r c.loop-s.self.fresh.now) (sym c.loop-s.invariant.0)
    (pass_classed k c.args.column c.requires.small c.loop-s.self.fresh.now (λ s h. c.loop-s.invariant.2 s (omega arith))))

pub returns-then-split : goal.returns-then-split
returns-then-split c =
    pass_refines c.args.self.now c.args.column c.requires.small c.loop-s.self.fresh.now (λ s h. c.loop-s.invariant.2 s (omega arith))
    (c.loop-s.self.room.1 ∙ ap (λ r. r.states) c.loop-s.invariant.0) _ c.loop-s.invariant.0 c.copy_from_slice.ensures.after c.ne-split.result (rw c.loop-s.invariant.1 at c.ne-split.ensures)

pub returns-else-split : goal.returns-else-split
returns-else-split c =
    pass_refines c.args.self.now c.args.column c.requires.small c.loop-s.self.fresh.now (λ s h. c.loop-s.invariant.2 s (omega arith))
    (c.loop-s.self.room.1 ∙ ap (λ r. r.states) c.loop-s.invariant.0) _ c.loop-s.invariant.0
    (same_unless c.loop-s.self.fresh.now c.loop-s.self.class.now c.ne-split.result c.ne-split.ensures c.if-split.false)
    c.ne-split.result (rw c.loop-s.invariant.1 at c.ne-split.ensures)
