use Rattle.std.proofs.Common.{◌≡◌, ◌+◌, ◌*◌, refl, ◌∙◌, arith}
use Rattle.words.specs.Sets.{bit}
use Rattle.words.specs.Formulas.{through}
use Rattle.words.proofs.Backwards.{Read, read_more, read_fits}
use Rattle.words.proofs.Bits.{bit_small, byte_of_bit}
use Rattle.words.proofs.Placing.{through_below}
use Rattle.tray.proofs.asked.read_through.Goals as goal

module _ (c : goal.After-from) where
  next : Read (λ sets. through sets c.args.column) c.args.listed.now c.next.new.self.iter.rest.now (2 * c.loop-set.read + c.from.result)
  next =
      let read : c.from.result ≡ bit c.in-Some.set.now c.args.column =
      c.from.ensures ∙ byte_of_bit c.in_set.result _ (bit_small c.in-Some.set.now c.args.column) c.in_set.ensures in
      read_more (λ i. bit i c.args.column) (λ sets. through sets c.args.column) (λ x xs. refl) c.args.listed.now c.loop-set.set-iterator.iter.rest.now c.next.new.self.iter.rest.now
      c.in-Some.set.now c.loop-set.read (2 * c.loop-set.read + c.from.result) c.loop-set.invariant c.in-Some.ensures.steps (omega (arith, read))

pub overflow_mul-read : goal.overflow_mul-read
overflow_mul-read c =
    omega (
      arith,
      read_fits (λ sets. through sets c.args.column) (λ sets. through_below sets c.args.column) c.args.listed.now c.next.new.self.iter.rest.now _ 4 c.requires
          (read_more (λ i. bit i c.args.column) (λ sets. through sets c.args.column) (λ x xs. refl) c.args.listed.now c.loop-set.set-iterator.iter.rest.now c.next.new.self.iter.rest.now
          c.in-Some.set.now c.loop-set.read (2 * c.loop-set.read + bit c.in-Some.set.now c.args.column) c.loop-set.invariant c.in-Some.ensures.steps refl),
    )

pub overflow_add-read : goal.overflow_add-read
overflow_add-read c = omega (arith, read_fits (λ sets. through sets c.args.column) (λ sets. through_below sets c.args.column) c.args.listed.now c.next.new.self.iter.rest.now _ 4 c.requires (next c))

pub loop-set-preserved : goal.loop-set-preserved
loop-set-preserved c = next c
