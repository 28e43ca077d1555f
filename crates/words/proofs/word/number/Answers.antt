use Rattle.std.proofs.Common.{◌≡◌, ◌+◌, ◌*◌, refl, ◌∙◌, arith}
use Rattle.words.specs.Sets.{bit}
use Rattle.words.specs.Words.{coded}
use Rattle.words.proofs.Backwards.{Read, read_more, read_fits}
use Rattle.words.proofs.Bits.{bit_small, byte_of_bit}
use Rattle.words.proofs.Coding.{coded_below}
use Rattle.words.proofs.word.number.Goals as goal

module _ (c : goal.After-from) where
  next : Read (coded c.args.set) c.args.word.now c.next.new.self.iter.rest.now (2 * c.loop-column.sum + c.from.result)
  next =
      let read : c.from.result ≡ bit c.args.set c.in-Some.column.now =
      c.from.ensures ∙ byte_of_bit c.in_set.result _ (bit_small c.args.set _) c.in_set.ensures in
      read_more (bit c.args.set) (coded c.args.set) (λ x xs. refl) c.args.word.now c.loop-column.column-iterator.iter.rest.now c.next.new.self.iter.rest.now
      c.in-Some.column.now c.loop-column.sum (2 * c.loop-column.sum + c.from.result) c.loop-column.invariant c.in-Some.ensures.steps (omega (arith, read))

pub overflow_mul-sum : goal.overflow_mul-sum
overflow_mul-sum c =
    omega (
      arith,
      read_fits (coded c.args.set) (coded_below c.args.set) c.args.word.now c.next.new.self.iter.rest.now _ 64 c.if-word-gt64.false
          (read_more (bit c.args.set) (coded c.args.set) (λ x xs. refl) c.args.word.now c.loop-column.column-iterator.iter.rest.now c.next.new.self.iter.rest.now
          c.in-Some.column.now c.loop-column.sum (2 * c.loop-column.sum + bit c.args.set c.in-Some.column.now) c.loop-column.invariant c.in-Some.ensures.steps refl),
    )

pub overflow_add-sum : goal.overflow_add-sum
overflow_add-sum c = omega (arith, read_fits (coded c.args.set) (coded_below c.args.set) c.args.word.now c.next.new.self.iter.rest.now _ 64 c.if-word-gt64.false (next c))

pub loop-column-preserved : goal.loop-column-preserved
loop-column-preserved c = next c
