use Rattle.std.proofs.Common.{◌/◌, ◌^◌, ◌<◌, lt_of_lt_of_le, arith, pow_mono}
use native.Mathlib.Nat.{div-eq_of_lt}
use Rattle.std.proofs.lemmas.Bool.{eqb-true, eq-eqb, le-leb}
use Rattle.words.proofs.Bits.{below_power}
use Rattle.words.proofs.word.is_column.Goals as goal

-- a byte is below 2^8
pub returns-then-sets-ge8 : goal.returns-then-sets-ge8
returns-then-sets-ge8 c =
    let small : c.args.byte < 2 ^ 8 = omega arith in
    ((λ _. lt_of_lt_of_le small (pow_mono c.if-sets-ge8.true)), (λ _. le-leb 8 c.args.sets c.if-sets-ge8.true))

pub returns-else-sets-ge8 : goal.returns-else-sets-ge8
returns-else-sets-ge8 c = (
  (λ e. below_power c.args.sets c.args.byte (eqb-true (c.args.byte / 2 ^ c.args.sets) 0 e)),
  (λ h. eq-eqb (c.args.byte / 2 ^ c.args.sets) 0 (div-eq_of_lt h)),
)
