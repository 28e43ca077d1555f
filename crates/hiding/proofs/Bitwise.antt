-- Bits of a number: one more of them, one less, and those that two numbers share.
use Rattle.std.proofs.Common.{◌≡◌, ℕ, ◌*◌, ◌%◌, ◌^◌, ◌<◌, min, true, false, not, eqb, ⊎_elim, Decides, sym, ◌∙◌, ap, arith}
use lib.Bits.{bit_and, bit_or}
use Rattle.std.specs.Int.{w64, bit_not, trailing_zeros}
use Rattle.std.proofs.lemmas.Bool.{cases_eq, both_ways, eq-eqb, eqb-true, eqb-false, ne_eqb, not-true}
use Rattle.std.proofs.lemmas.Bool.Decides.{nat_tests}
use Rattle.std.proofs.lemmas.Nat.{and_le_l}
use Rattle.std.proofs.lemmas.Nat.Bits.{bit_at_or, bit_at_and, bit_at-pow_same, bit_at-pow_other, bit_at-trailing_zeros, bit_at_clear_same, bit_at_clear_other}
use Rattle.words.specs.Sets.{bit, Member}
use Rattle.hiding.specs.StateSets.{has_bit}
use Rattle.words.proofs.Bits.{bit_small, bit_is, bit_of_zero}

-- one bit more
pub bit_put_here : (n k : ℕ) → bit k (bit_or n (2 ^ k)) ≡ 1
bit_put_here n k = omega (arith, bit_is k (bit_or n (2 ^ k)), bit_at_or n (2 ^ k) k, bit_at-pow_same k, bit_is k n, bit_small k n)

pub bit_put_elsewhere : (n k i : ℕ) → (i ≡ k → ⊥) → bit i (bit_or n (2 ^ k)) ≡ bit i n
bit_put_elsewhere n k i other = omega (arith, bit_is i (bit_or n (2 ^ k)), bit_at_or n (2 ^ k) i, bit_at-pow_other k i other, bit_is i n)

-- ---- the lowest bit of a word of 64 bits, and the word without it

abbrev pub lowest : ℕ → ℕ
lowest word = trailing_zeros w64 word

abbrev pub cleared : ℕ → ℕ
cleared word = bit_and word (bit_not w64 (1 * 2 ^ lowest word % 2 ^ 64))

-- the place of the lowest bit
module _ (word : ℕ) (some : word ≡ 0 → ⊥) (small : word < 2 ^ 64) where
  pub lowest_below : lowest word < 64
  lowest_below = (bit_at-trailing_zeros w64 word (omega arith) small).0

  pub has_lowest : has_bit word (lowest word) ≡ true
  has_lowest = eq-eqb _ 1 (bit_is (lowest word) word ∙ (bit_at-trailing_zeros w64 word (omega arith) small).1)

  pub none_lower : (b : ℕ) → b < lowest word → has_bit word b ≡ false
  none_lower b l = ne_eqb _ 1 (omega (arith, bit_is b word, (bit_at-trailing_zeros w64 word (omega arith) small).2 b l))

  pub lowest_gone : has_bit (cleared word) (lowest word) ≡ false
  lowest_gone = ne_eqb _ 1 (omega (arith, bit_is (lowest word) (cleared word), bit_at_clear_same w64 word (lowest word) lowest_below))

  pub others_stay : (b : ℕ) → b < 64 → (b ≡ lowest word → ⊥) → has_bit (cleared word) b ≡ has_bit word b
  others_stay b l other =
      ap (λ x. eqb x 1) (bit_is b (cleared word) ∙ bit_at_clear_other w64 word (lowest word) lowest_below b l other ∙ sym (bit_is b word))

  pub cleared_less : cleared word < word
  cleared_less = ⊎_elim
      (λ e. absurd (both_ways _ lowest_gone (ap (λ w. has_bit w (lowest word)) e ∙ has_lowest)))
      (λ other. omega (arith, other, and_le_l word (bit_not w64 (1 * 2 ^ lowest word % 2 ^ 64))))
      (cases_eq (cleared word) word)

-- ---- two words that share a bit

bit_of_both : (a b p : ℕ) → bit p (bit_and a b) ≡ min (bit p a) (bit p b)
bit_of_both a b p = omega (arith, bit_is p (bit_and a b), bit_at_and a b p, bit_is p a, bit_is p b)

pub words_share : (a b : ℕ) → a < 2 ^ 64 → Decides (not (eqb (bit_and a b) 0)) ((p : ℕ) × (p < 64) × Member p a × Member p b)
words_share a b small = (
  (λ t.
      let some = eqb-false (bit_and a b) 0 (not-true (eqb (bit_and a b) 0) t) in
      let fits : bit_and a b < 2 ^ 64 = omega (arith, and_le_l a b) in
      let p : ℕ = lowest (bit_and a b) in
      let here = eqb-true (bit p (bit_and a b)) 1 (has_lowest (bit_and a b) some fits) in
      let small_a = bit_small p a in
      let small_b = bit_small p b in
      (p, lowest_below (bit_and a b) some fits, omega (arith, bit_of_both a b p), omega (arith, bit_of_both a b p))),
  (λ m. grind (arith, nat_tests, bit_of_both a b m.0, bit_of_zero m.0, m.2, m.3)),
)
