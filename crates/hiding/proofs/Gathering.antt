-- What is put into a set when each state of another is followed.
use Rattle.std.proofs.Common.{◌≡◌, ℕ, zero, suc, ◌+◌, ◌*◌, ◌<◌, Bool, true, ◌⊎◌, ◌↔◌, get_or, sym, ap, ◌∙◌, subst, inl, inr, ⊎_elim, arith}
use Rattle.std.proofs.lemmas.Bool.{cases_eq, cond_both, both_ways}
use Rattle.std.proofs.lemmas.Bool.Decides.{nat_tests}
use Rattle.words.specs.Described.{described}
use Rattle.hiding.specs.declared.state_set.StateSet.{StateSet}
use Rattle.hiding.specs.declared.subsets.Readings.{Readings}
use Rattle.hiding.specs.StateSets.{Has, Whole, has_bit, is_in, no_states}
use Rattle.hiding.specs.Collected.{walked, followed, gathered}
use Rattle.hiding.proofs.Inserting.{in_decides, whole_none, none_has, whole_inserted, has_inserted}

-- bit i of word k tells of the state 64 * k + i
pub bit_is_in : (s : StateSet) (k i : ℕ) → k < 8 → i < 64 → has_bit (get_or s.words k 0) i ≡ is_in s (64 * k + i)
bit_is_in s k i hk hi = grind (arith, nat_tests)

module _ (r : Readings) where
  -- t is a next state of q
  abbrev pub Next : ℕ → ℕ → Type 0
  Next q t = (t < 512) × ((t ≡ (described r.rows).step q r.off) ⊎ (t ≡ (described r.rows).step q r.on))

  follow_whole : (q : ℕ) (s : StateSet) → Whole s → Whole (followed r q s)
  follow_whole q s w = whole_inserted _ (whole_inserted s w ((described r.rows).step q r.off)) ((described r.rows).step q r.on)

  follow_has : (q : ℕ) (s : StateSet) → Whole s → (t : ℕ) → Has (followed r q s) t ↔ (Next q t ⊎ Has s t)
  follow_has q s w t =
      let first = has_inserted s w ((described r.rows).step q r.off) t in
      let second = has_inserted _ (whole_inserted s w ((described r.rows).step q r.off)) ((described r.rows).step q r.on) t in
      ((λ m. grind (arith, first, second)), (λ m. grind (arith, first, second)))

  module _ (passes : ℕ → Bool) where
    abbrev below : ℕ → StateSet
    below k = walked (followed r) passes k no_states

    Comes : ℕ → ℕ → Type 0
    Comes k t = (q : ℕ) × (q < k) × (passes q ≡ true) × Next q t

    below_whole : (k : ℕ) → Whole (below k)
    unfolding walked
    below_whole zero = whole_none
    below_whole (suc k) = cond_both (passes k) _ _ Whole (λ _. follow_whole k (below k) (below_whole k)) (λ _. below_whole k)

    below_has : (k t : ℕ) → Has (below k) t ↔ Comes k t
    unfolding walked Comes
    below_has zero t = ((λ m. absurd (none_has t m)), (λ c. absurd (omega (arith, c.1))))
    below_has (suc k) t =
        let put = follow_has k (below k) (below_whole k) t in
        cond_both (passes k) (followed r k (below k)) (below k) (λ x. Has x t ↔ Comes (suc k) t)
        (λ is. (
          (λ m. ⊎_elim (λ n. (k, omega arith, is, n)) (λ x. further ((below_has k t).0 x)) (put.0 m)),
          (λ c. put.1 (⊎_elim (λ e. inl (subst (λ q. Next q t) e c.3)) (λ other. inr ((below_has k t).1 (c.0, omega (arith, c.1, other), c.2, c.3))) (cases_eq c.0 k))),
        ))
        (λ not. (
          (λ m. further ((below_has k t).0 m)),
          (λ c. (below_has k t).1 (c.0, ⊎_elim (λ e. absurd (both_ways _ not (sym (ap passes e) ∙ c.2))) (λ other. omega (arith, c.1, other)) (cases_eq c.0 k), c.2, c.3)),
        ))
      where
        further : Comes k t → Comes (suc k) t
        further c = (c.0, omega (arith, c.1), c.2, c.3)

  pub gathered_whole : (s : StateSet) → Whole (gathered r s)
  gathered_whole s = below_whole (is_in s) 512

  pub gathered_has : (s : StateSet) (t : ℕ) → Has (gathered r s) t ↔ ((q : ℕ) × Has s q × Next q t)
  unfolding Comes
  gathered_has s t = (
    (λ m. let c = (below_has (is_in s) 512 t).0 m in (c.0, (in_decides s c.0).0 c.2, c.3)),
    (λ c. (below_has (is_in s) 512 t).1 (c.0, c.1.0, (in_decides s c.0).1 c.1, c.2)),
  )
