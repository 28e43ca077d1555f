-- Counting: exactly k and more than k exclude each other, and two exact counts are one.
use Rattle.std.proofs.Common.{◌≡◌, ℕ, zero, suc, ◌-◌, ◌<◌, ◌≤◌, ◌⊎◌, List, sym, refl, subst, inl, inr, arith}
use Rattle.std.proofs.lemmas.Bool.{cases_lt, cases_order}
use Rattle.words.specs.Residuals.{Count, MoreThan, Equality}

-- ---- a choice for each number below k is a function

module _ (P : ℕ → ℕ → Type 0) (k : ℕ) (given : (j : ℕ) → j < k → (i : ℕ) × P j i) where
  pick : (j : ℕ) → (j < k) ⊎ (k ≤ j) → ℕ
  pick j (inl h) = (given j h).0
  pick j (inr h) = 0

  picked : (j : ℕ) → j < k → (x : (j < k) ⊎ (k ≤ j)) → P j (pick j x)
  unfolding pick
  picked j h (inl l) = (given j l).1
  picked j h (inr l) = absurd (omega arith)

  pub choice : (f : ℕ → ℕ) × ((j : ℕ) → j < k → P j (f j))
  choice = ((λ j. pick j (cases_lt j k)), λ j h. picked j h (cases_lt j k))

-- ---- k + 1 numbers below k are not all different

-- a number taken out: those above it move down by one
squeezed : (v x : ℕ) → (x ≡ v → ⊥) → (y : ℕ) × (((v < x) × (x ≡ suc y)) ⊎ ((x < v) × (x ≡ y)))
squeezed v x apart = go (cases_order x v)
  where
    go : (x ≡ v) ⊎ ((x < v) ⊎ (v < x)) → (y : ℕ) × (((v < x) × (x ≡ suc y)) ⊎ ((x < v) × (x ≡ y)))
    go (inl e) = absurd (apart e)
    go (inr (inl h)) = (x, inr (h, refl))
    go (inr (inr h)) = (x - 1, inl (h, omega arith))

Squeezed : ℕ → (ℕ → ℕ) → ℕ → ℕ → Type 0
Squeezed v f j y = ((v < f j) × (f j ≡ suc y)) ⊎ ((f j < v) × (f j ≡ y))

pub pigeons : (k : ℕ) (f : ℕ → ℕ) → ((j : ℕ) → j < suc k → f j < k) → ((i j : ℕ) → i < suc k → j < suc k → f i ≡ f j → i ≡ j) → ⊥
unfolding Squeezed
pigeons zero f small apart = omega (arith, small 0 (omega arith))
pigeons (suc k) f small apart =
    let v : ℕ = f (suc k) in
    let out : (j : ℕ) → j < suc k → f j ≡ v → ⊥ = λ j h e. let same = apart j (suc k) (omega arith) (omega arith) e in omega arith in
    let g = choice (Squeezed v f) (suc k) (λ j h. squeezed v (f j) (out j h)) in
    pigeons k g.0
    (λ j h. low j (small j (omega arith)) (small (suc k) (omega arith)) (g.1 j h))
    (λ i j hi hj e. apart i j (omega arith) (omega arith) (same i j e (g.1 i hi) (g.1 j hj)))
  where
    low : (j : ℕ) {y : ℕ} → f j < suc k → f (suc k) < suc k → ((f (suc k) < f j) × (f j ≡ suc y)) ⊎ ((f j < f (suc k)) × (f j ≡ y)) → y < k
    low j hj hv (inl s) = let e = s.1 in omega arith
    low j hj hv (inr s) = let l = s.0 in let e = s.1 in omega arith

    same : (i j : ℕ) {y z : ℕ} → y ≡ z → ((f (suc k) < f i) × (f i ≡ suc y)) ⊎ ((f i < f (suc k)) × (f i ≡ y))
        → ((f (suc k) < f j) × (f j ≡ suc z)) ⊎ ((f j < f (suc k)) × (f j ≡ z)) → f i ≡ f j
    same i j e (inl s) (inl t) = let a = s.1 in let b = t.1 in omega arith
    same i j e (inl s) (inr t) = let a = s.1 in let b = t.1 in let c = s.0 in let d = t.0 in omega arith
    same i j e (inr s) (inl t) = let a = s.1 in let b = t.1 in let c = s.0 in let d = t.0 in omega arith
    same i j e (inr s) (inr t) = let a = s.1 in let b = t.1 in omega arith

-- ---- counts

module _ (n : ℕ) (Same : List ℕ → List ℕ → Type 0) (equal : Equality Same) where
  pub never_both : (k : ℕ) → Count n Same k → MoreThan n Same k → ⊥
  never_both k exact more =
      let at = choice (λ j i. (i < k) × Same (more.word j) (exact.word i)) (suc k)
      (λ j h. let e = exact.every (more.word j) (more.columns j (omega arith)) in (e.0, (e.1, e.2))) in
      pigeons k at.0 (λ j h. (at.1 j h).0)
      (λ i j hi hj e. more.different i j (omega arith) (omega arith)
      (equal.chain (more.word i) (exact.word (at.0 i)) (more.word j) (at.1 i hi).1
      (equal.back (more.word j) (exact.word (at.0 i)) (subst (λ m. Same (more.word j) (exact.word m)) (sym e) (at.1 j hj).1))))

  -- what is counted within a bound is not more than the bound
  pub within : (k b : ℕ) → k ≤ b → Count n Same k → MoreThan n Same b → ⊥
  within k b h exact more = never_both k exact (record {
    word = more.word;
    columns = λ j hj. more.columns j (omega arith);
    different = λ i j hi hj. more.different i j (omega arith) (omega arith);
  })

  -- a larger count is more than a smaller one
  above : (k l : ℕ) → k < l → Count n Same l → MoreThan n Same k
  above k l h exact = record {
    word = exact.word;
    columns = λ j hj. exact.columns j (omega arith);
    different = λ i j hi hj. exact.different i j (omega arith) (omega arith);
  }

  pub one_count : (k l : ℕ) → Count n Same k → Count n Same l → k ≡ l
  one_count k l a b = go (cases_order k l)
    where
      go : (k ≡ l) ⊎ ((k < l) ⊎ (l < k)) → k ≡ l
      go (inl e) = e
      go (inr (inl h)) = absurd (never_both k a (above k l h b))
      go (inr (inr h)) = absurd (never_both l b (above l k h a))
