-- A walk over the numbers below k that pass a test.
use Rattle.std.proofs.Common.{◌≡◌, ℕ, zero, suc, ◌+◌, ◌^◌, ◌<◌, Bool, true, false, cond, refl, sym, ap, ◌∙◌, ap₂, ⊎_elim, add-zero, add-suc, arith}
use Rattle.std.proofs.lemmas.Bool.{cases_eq, ne_eqb, cond-true, cond-false}
use Rattle.words.specs.Sets.{bit}
use Rattle.words.proofs.Bits.{bit_of_zero}
use Rattle.hiding.specs.StateSets.{has_bit}
use Rattle.hiding.specs.Collected.{walked}
use Rattle.hiding.proofs.Bitwise.{lowest, cleared, lowest_below, has_lowest, none_lower, lowest_gone, others_stay}

module _ {S : Type 0} where
  walked_none : (act : ℕ → S → S) (passes : ℕ → Bool) (k : ℕ) (s : S) → ((i : ℕ) → i < k → passes i ≡ false) → walked act passes k s ≡ s
  unfolding walked
  walked_none act passes zero s none = refl
  walked_none act passes (suc k) s none =
      cond-false (passes k) _ _ (none k (omega arith)) ∙ walked_none act passes k s (λ i l. none i (omega arith))

  -- the lowest number that passes first, and then the others
  pub walked_first : (act : ℕ → S → S) (passes others : ℕ → Bool) (b k : ℕ) (s : S) → b < k → passes b ≡ true → others b ≡ false
      → ((i : ℕ) → i < b → passes i ≡ false) → ((i : ℕ) → i < k → (i ≡ b → ⊥) → others i ≡ passes i) → walked act others k (act b s) ≡ walked act passes k s
  unfolding walked
  walked_first act passes others b zero s l here gone none same = absurd (omega arith)
  walked_first act passes others b (suc k) s l here gone none same = ⊎_elim
      (λ e.
      cond-false (others k) _ _ (ap others e ∙ gone)
      ∙ walked_none act others k (act b s) (λ i h. same i (omega arith) (omega (arith, e, h)) ∙ none i (omega (arith, e, h)))
      ∙ sym (cond-true (passes k) _ _ (ap passes e ∙ here) ∙ ap₂ act e (walked_none act passes k s (λ i h. none i (omega (arith, e, h))))))
      (λ other.
      let rest = walked_first act passes others b k s (omega (arith, l, other)) here gone none (λ i h. same i (omega arith)) in
      ap₂ (λ p w. cond p (act k w) w) (same k (omega arith) other) rest)
      (cases_eq k b)

  -- the numbers below j, and then k from j on
  pub walked_more : (act : ℕ → S → S) (passes part : ℕ → Bool) (j k : ℕ) (s : S) → ((i : ℕ) → i < k → part i ≡ passes (j + i))
      → walked (λ i. act (j + i)) part k (walked act passes j s) ≡ walked act passes (j + k) s
  unfolding walked
  walked_more act passes part j zero s same = rw add-zero refl
  walked_more act passes part j (suc k) s same =
      rw add-suc (ap₂ (λ p w. cond p (act (j + k) w) w) (same k (omega arith)) (walked_more act passes part j k s (λ i h. same i (omega arith))))

-- a walk over the bits of a word: first by its lowest bit, and then over the others
pub walked_bits : {S : Type 0} (act : ℕ → S → S) (word : ℕ) (s s' : S) → (word ≡ 0 → ⊥) → word < 2 ^ 64 → s' ≡ act (lowest word) s
    → walked act (has_bit (cleared word)) 64 s' ≡ walked act (has_bit word) 64 s
walked_bits act word s s' some small is =
    ap (walked act (has_bit (cleared word)) 64) is
    ∙ walked_first act (has_bit word) (has_bit (cleared word)) (lowest word) 64 s (lowest_below word some small) (has_lowest word some small)
    (lowest_gone word some small) (none_lower word some small) (others_stay word some small)

pub walked_no_bits : {S : Type 0} (act : ℕ → S → S) (word : ℕ) (s : S) → word ≡ 0 → walked act (has_bit word) 64 s ≡ s
walked_no_bits act word s none =
    walked_none act (has_bit word) 64 s (λ b l. ne_eqb (bit b word) 1 (omega (arith, ap (bit b) none, bit_of_zero b)))
