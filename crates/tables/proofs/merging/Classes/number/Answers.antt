use Rattle.std.proofs.Common.{◌≡◌, ℕ, ◌≤◌, slice_index, sym, ◌∙◌, arith}
use Rattle.tables.proofs.Numbers.{numbered_old, numbered_new}
use Rattle.tables.proofs.merging.Classes.number.Goals as goal
use Rattle.tables.proofs.merging.Classes.number.Goals.{then-from-s, else-from-s}

pub loop-s-preserved : goal.loop-s-preserved
loop-s-preserved c =
    let class : ℕ → ℕ = slice_index c.args.self.class.now in
    let s : ℕ = c.loop-s.s in
    let below : class s ≤ s = c.args.self.classed.low s (omega arith) in
    elim c.if-from-s.branch [
      | then-from-s w ↦
          let own : class s ≡ s = sym c.from.ensures ∙ w.if-from-s.true in
          rw (w.numbers-is, w.fresh-is, w.count-is, own)
          (numbered_new class s c.loop-s.numbers c.loop-s.fresh c.loop-s.count c.loop-s.invariant (omega arith) (omega (arith, c.loop-s.invariant.few)) own)
      | else-from-s w ↦
          rw (w.numbers-is, w.fresh-is, w.count-is, w.from-else-from-s.ensures)
          (numbered_old class s c.loop-s.numbers c.loop-s.fresh c.loop-s.count c.loop-s.invariant (omega arith) (omega (arith, w.if-from-s.false, c.from.ensures))
          (c.args.self.classed.itself s (omega arith)))
    ]
