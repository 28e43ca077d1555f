-- What a set of states has after an insertion, and when two sets are equal.
use Rattle.std.proofs.Common.{◌≡◌, ℕ, ◌+◌, ◌*◌, ◌/◌, ◌%◌, ◌^◌, ◌<◌, ◌⊎◌, ◌↔◌, List, get_or, Decides, sym, refl, ap, ◌∙◌, arith, ext_get_or}
use Rattle.std.proofs.lemmas.Nat.{or_lt, pow_below}
use Rattle.std.proofs.lemmas.Nat.Bits.{same_from_bits_below}
use Rattle.std.proofs.lemmas.List.{get_or-set_same, get_or-set_other, length-set, get_or-replicate}
use Rattle.std.proofs.lemmas.Grind.{common_steps}
use Rattle.std.proofs.lemmas.Bool.Decides.{Decides-and, Decides-ltb, Decides-eqb, nat_tests}
use Rattle.words.specs.Sets.{bit, Member}
use Rattle.words.proofs.Bits.{bit_of_zero, bit_small, bit_is}
use Rattle.hiding.specs.declared.state_set.StateSet.{StateSet}
use Rattle.hiding.specs.StateSets.{word_for, Has, Whole, is_in, no_states, inserted}
use Rattle.hiding.proofs.Bitwise.{bit_put_here, bit_put_elsewhere}

pub in_decides : (s : StateSet) (q : ℕ) → Decides (is_in s q) (Has s q)
in_decides s q = Decides-and _ _ (Decides-ltb q 512) (Decides-eqb (bit (q % 64) (word_for s q)) 1)

-- bit p of word k is the state k * 64 + p
pub has_at : (s : StateSet) (k p : ℕ) → k < 8 → p < 64 → Member p (get_or s.words k 0) → Has s (k * 64 + p)
has_at s k p hk hp m = grind arith

-- ---- the set with no state

pub whole_none : Whole no_states
whole_none = record { eight = refl; fits = λ k. grind (arith, common_steps) }

pub none_has : (q : ℕ) → Has no_states q → ⊥
none_has q h = grind (arith, get_or-replicate {A = ℕ}, bit_of_zero)

-- ---- one state more

module _ (s : StateSet) (whole : Whole s) (q : ℕ) where
  pub whole_inserted : Whole (inserted s q)
  whole_inserted = record {
    eight = grind (arith, nat_tests, whole.eight, length-set {A = ℕ});
    fits = λ k. grind (arith, nat_tests, whole.fits k, whole.fits (q / 64), whole.eight, or_lt 64 (word_for s q) (2 ^ (q % 64)), pow_below (q % 64) 64, get_or-set_other {A = ℕ}, get_or-set_same {A = ℕ});
  }

  pub has_inserted : (t : ℕ) → Has (inserted s q) t ↔ (((t < 512) × (t ≡ q)) ⊎ Has s t)
  has_inserted t = (
    (λ m. grind (arith, nat_tests, whole.eight, bit_put_elsewhere (word_for s q) (q % 64) (t % 64), get_or-set_other {A = ℕ}, get_or-set_same {A = ℕ})),
    (λ m. grind (arith, nat_tests, whole.eight, bit_put_here (word_for s q) (q % 64), bit_put_elsewhere (word_for s q) (q % 64) (t % 64), get_or-set_other {A = ℕ}, get_or-set_same {A = ℕ})),
  )

-- ---- sets with the same states are equal

pub same_sets : (s t : StateSet) → Whole s → Whole t → ((q : ℕ) → Has s q → Has t q) → ((q : ℕ) → Has t q → Has s q) → s ≡ t
same_sets s t ws wt to from =
    ap {A = List ℕ} {B = StateSet} (λ x. record { words = x }) (ext_get_or 0 s.words t.words (ws.eight ∙ sym wt.eight) (λ k h.
    same_from_bits_below 64 (get_or s.words k 0) (get_or t.words k 0) (ws.fits k) (wt.fits k) (λ p low.
    grind (arith, ws.eight, to (k * 64 + p), from (k * 64 + p), bit_is p (get_or s.words k 0), bit_is p (get_or t.words k 0), bit_small p (get_or s.words k 0), bit_small p (get_or t.words k 0)))))
