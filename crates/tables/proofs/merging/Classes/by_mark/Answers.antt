use Rattle.std.proofs.Common.{◌≡◌, slice_index, arith}
use Rattle.words.specs.Described.{described}
use Rattle.words.proofs.Merging.{Lowest, first_classes}
use Rattle.tables.proofs.Lows.{more_set}
use Rattle.tables.proofs.merging.Classes.by_mark.Goals as goal

pub loop-s-preserved : goal.loop-s-preserved
loop-s-preserved c =
    let a = described c.args.rows.now in
    rw c.from.ensures
    (more_set (λ s. Lowest (λ t. a.accepts t ≡ a.accepts s)) c.loop-s.class c.loop-s.s c.lowest_marked.result
    (omega arith) c.loop-s.invariant c.lowest_marked.ensures)

pub invariant_of-result-clause-classed : goal.invariant_of-result-clause-classed
invariant_of-result-clause-classed c =
    let r = c.args.rows.now in
    first_classes r.places (described r) r.states (slice_index c.loop-s.class) (λ s h. c.loop-s.invariant s (omega arith))
