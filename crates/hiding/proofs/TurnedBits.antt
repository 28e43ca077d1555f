-- A bit turned by a mask, and columns that agree in all other bits.
use Rattle.std.proofs.Common.{◌≡◌, ℕ, ◌-◌, ◌*◌, ◌%◌, ◌^◌, ◌<◌, ◌⊎◌, refl, inl, inr, sym, ap, ◌∙◌, ⊎_elim, arith}
use lib.Bits.{bit_and, bit_or}
use Rattle.std.specs.Int.{w8, bit_not}
use Rattle.std.proofs.lemmas.Bool.{cases_eq, cases_lt}
use Rattle.std.proofs.lemmas.Nat.{one_shl, and_le_l}
use Rattle.std.proofs.lemmas.Nat.Bits.{bit_at_clear_same, bit_at_clear_other, bit_at_above}
use Rattle.words.specs.Sets.{bit}
use Rattle.words.specs.Hiding.{turned, AgreeBut}
use Rattle.words.proofs.Bits.{bit_is, bit_small, bit_of_zero}
use Rattle.words.proofs.Hiding.{turned_is}
use Rattle.hiding.proofs.Bitwise.{bit_put_here, bit_put_elsewhere}

pub turned_on : (i c : ℕ) → i < 8 → bit_or c (1 * 2 ^ i % 256) ≡ turned i 1 c
turned_on i c low =
    ap (bit_or c) (one_shl i 8 low) ∙ turned_is i (bit_or c (2 ^ i)) c (bit_put_elsewhere c i) ∙ ap (λ b. turned i b c) (bit_put_here c i)

pub turned_off : (i c : ℕ) → i < 8 → c < 256 → bit_and c (255 - 1 * 2 ^ i % 256) ≡ turned i 0 c
turned_off i c low small = turned_is i left c agree ∙ ap (λ b. turned i b c) (bit_is i left ∙ bit_at_clear_same w8 c i low)
  where
    left : ℕ
    left = bit_and c (bit_not w8 (1 * 2 ^ i % 2 ^ 8))

    agree : AgreeBut i left c
    agree j other = bit_is j left ∙ ⊎_elim
        (λ here. bit_at_clear_other w8 c i low j here other)
        (λ past. bit_at_above left 8 j (omega (arith, and_le_l c (255 - 1 * 2 ^ i % 256))) past ∙ sym (bit_at_above c 8 j small past))
        (cases_lt j 8) ∙ sym (bit_is j c)

-- a column that agrees with another in all bits but i is that one with bit i turned to 0 or to 1
pub turned_either : (i c d : ℕ) → AgreeBut i c d → (c ≡ turned i 0 d) ⊎ (c ≡ turned i 1 d)
turned_either i c d agree = ⊎_elim
    (λ one. inr (turned_is i c d agree ∙ ap (λ b. turned i b d) one))
    (λ other. let none : bit i c ≡ 0 = omega (arith, bit_small i c, other) in inl (turned_is i c d agree ∙ ap (λ b. turned i b d) none))
    (cases_eq (bit i c) 1)

pub zero_off : (i : ℕ) → turned i 0 0 ≡ 0
zero_off i = sym (turned_is i 0 0 (λ j other. refl) ∙ ap (λ b. turned i b 0) (bit_of_zero i))
