use Rattle.std.proofs.Common.{◌≡◌, ℕ, ◌/◌, ◌^◌, ◌<◌, sym, ◌∙◌, lt_of_lt_of_le, arith, pow_mono}
use lib.Bits.{bit_and}
use Rattle.std.proofs.lemmas.Nat.{and_mask}
use Rattle.std.proofs.lemmas.Bool.{eqb-true, eq-eqb, ltb-true}
use Rattle.words.specs.Sets.{bit}
use Rattle.words.proofs.Bits.{bit_is, bit_past}
use Rattle.words.proofs.word.is_member.Goals as goal

pub returns-then-position-lt64 : goal.returns-then-position-lt64
returns-then-position-lt64 c =
    let q : ℕ = c.args.set / 2 ^ c.args.position in
    let is : bit_and q 1 ≡ bit c.args.position c.args.set = and_mask q 1 ∙ sym (bit_is c.args.position c.args.set) in
    ((λ e. sym is ∙ eqb-true (bit_and q 1) 1 e), (λ e. eq-eqb (bit_and q 1) 1 (is ∙ e)))

-- a number of 64 bits has no member from 64 on
pub returns-else-position-lt64 : goal.returns-else-position-lt64
returns-else-position-lt64 c =
    let small : c.args.set < 2 ^ 64 = omega arith in
    let past = bit_past c.args.position c.args.set (lt_of_lt_of_le small (pow_mono c.if-position-lt64.false)) in
    ((λ e. absurd (omega (arith, ltb-true c.args.position 64 e))), (λ e. absurd (omega (arith, past, e))))
