-- The table of a language is unique, row by row, and its states are counted by the residuals.
use Rattle.std.proofs.Common.{◌≡◌, ℕ, zero, suc, ◌^◌, ◌<◌, ◌≤◌, Bool, cond, ◌⊎◌, List, [], ◌∷◌, ◌++◌, sym, refl, ap, ◌∙◌, subst, inl, inr, ⊎_elim, arith}
use Rattle.std.proofs.lemmas.Bool.{cases_lt, cases_order}
use Rattle.words.specs.Order.{Precedes, NotLater}
use Rattle.words.specs.Rows.{next_of, mark_of}
use Rattle.words.specs.Residuals.{SameResidual, Count, Equality}
use Rattle.words.specs.TableOf.{TableOf}
use Rattle.words.proofs.Orders.{never, chain}
use Rattle.words.proofs.Counts.{choice}

pub residual_equality : (n : ℕ) (L : List ℕ → Bool) → Equality (SameResidual n L)
residual_equality n L = record {
  itself = λ u v cs. refl;
  back = λ u w same v cs. sym (same v cs);
  chain = λ u w x same more v cs. same v cs ∙ more v cs;
}

pub table_counts : (n : ℕ) (L : List ℕ → Bool) (rows : List ℕ) (k : ℕ) → TableOf n L rows k → Count n (SameResidual n L) k
table_counts n L rows k t = record {
  word = t.first;
  columns = t.columns;
  different = t.different;
  every = λ w cs. ((t.every w cs).0, (t.every w cs).1, (t.every w cs).2);
}

-- neither is later than the other
pub level : (u w : List ℕ) → NotLater u w → NotLater w u → u ≡ w
level u w (inl e) later = e
level u w (inr p) (inl e) = sym e
level u w (inr p) (inr q) = absurd (never u (chain u w u p q))

-- what rises strictly is never below its place
rises : (f : ℕ → ℕ) (k : ℕ) → ((i j : ℕ) → i < j → j < k → f i < f j) → (j : ℕ) → j < k → j ≤ f j
rises f k up zero h = omega arith
rises f k up (suc j) h = let one_up : f j < f (suc j) = up j (suc j) (omega arith) h in omega (arith, rises f k up j (omega arith))

-- One table beside another of the same language: each state of the one has a state of the other with the same first word.
module _ (n : ℕ) (L : List ℕ → Bool) (rows : List ℕ) (k : ℕ) (t : TableOf n L rows k) (rows' : List ℕ) (k' : ℕ) (t' : TableOf n L rows' k') where
  meet : (j : ℕ) → j < k → (i : ℕ) × ((i < k') × (t'.first i ≡ t.first j))
  meet j h =
      let e = t'.every (t.first j) (t.columns j h) in
      let back = t.every (t'.first e.0) (t'.columns e.0 e.1) in
      let same : back.0 ≡ j = t.different back.0 j back.1 h (λ v cs. sym (back.2 v cs) ∙ sym (e.2 v cs)) in
      (e.0, (e.1, level (t'.first e.0) (t.first j) e.3 (subst (λ m. NotLater (t.first m) (t'.first e.0)) same back.3)))

  -- first words tell the order of their states
  ordered_back : (i j : ℕ) → i < k → j < k → Precedes (t.first i) (t.first j) → i < j
  ordered_back i j hi hj p = go (cases_order i j)
    where
      go : (i ≡ j) ⊎ ((i < j) ⊎ (j < i)) → i < j
      go (inl e) = absurd (never (t.first j) (subst (λ m. Precedes (t.first m) (t.first j)) e p))
      go (inr (inl l)) = l
      go (inr (inr l)) = absurd (never (t.first i) (chain (t.first i) (t.first j) (t.first i) p (t.ordered j i l hi)))

  one_first : (i j : ℕ) → i < k → j < k → t.first i ≡ t.first j → i ≡ j
  one_first i j hi hj e = t.different i j hi hj (λ v cs. ap (λ w. L (w ++ v)) e)

module _ (n : ℕ) (L : List ℕ → Bool) (rows : List ℕ) (k : ℕ) (t : TableOf n L rows k) (rows' : List ℕ) (k' : ℕ) (t' : TableOf n L rows' k') where
  there : (f : ℕ → ℕ) × ((j : ℕ) → j < k → (f j < k') × (t'.first (f j) ≡ t.first j))
  there = choice (λ j i. (i < k') × (t'.first i ≡ t.first j)) k (meet n L rows k t rows' k' t')

  there_rises : (i j : ℕ) → i < j → j < k → there.0 i < there.0 j
  there_rises i j h hj =
      let a = there.1 i (omega arith) in
      let b = there.1 j hj in
      ordered_back n L rows' k' t' rows k t (there.0 i) (there.0 j) a.0 b.0
      (subst (λ w. Precedes w (t'.first (there.0 j))) (sym a.1) (subst (Precedes (t.first i)) (sym b.1) (t.ordered i j h hj)))

module _ (n : ℕ) (L : List ℕ → Bool) (rows : List ℕ) (k : ℕ) (t : TableOf n L rows k) (rows' : List ℕ) (k' : ℕ) (t' : TableOf n L rows' k') where
  -- there and back again is the same state, so no state moves
  stays_put : (j : ℕ) → j < k → (there n L rows k t rows' k' t').0 j ≡ j
  stays_put j h =
      let go = there n L rows k t rows' k' t' in
      let back = there n L rows' k' t' rows k t in
      let at = go.1 j h in
      let home = back.1 (go.0 j) at.0 in
      let same : back.0 (go.0 j) ≡ j = one_first n L rows k t rows' k' t' (back.0 (go.0 j)) j home.0 h (home.1 ∙ at.1) in
      let up : j ≤ go.0 j = rises go.0 k (there_rises n L rows k t rows' k' t') j h in
      let down : go.0 j ≤ back.0 (go.0 j) = rises back.0 k' (there_rises n L rows' k' t' rows k t) (go.0 j) at.0 in
      omega arith

  same_first : (j : ℕ) → j < k → (j < k') × (t'.first j ≡ t.first j)
  same_first j h =
      let at = (there n L rows k t rows' k' t').1 j h in
      subst (λ i. (i < k') × (t'.first i ≡ t.first j)) (stays_put j h) (at.0, at.1)

  not_more : k ≤ k'
  not_more = ⊎_elim (λ h. absurd (omega (arith, (same_first k' h).0))) (λ h. h) (cases_lt k' k)

module _ (n : ℕ) (L : List ℕ → Bool) (rows : List ℕ) (k : ℕ) (t : TableOf n L rows k) (rows' : List ℕ) (k' : ℕ) (t' : TableOf n L rows' k') where
  pub same_size : k ≡ k'
  same_size = omega (arith, not_more n L rows k t rows' k' t', not_more n L rows' k' t' rows k t)

  pub same_next : (j c : ℕ) → j < k → c < 2 ^ n → next_of n rows j c ≡ next_of n rows' j c
  same_next j c hj hc =
      let here = same_first n L rows k t rows' k' t' j hj in
      let a = t.next j c hj hc in
      let b = t'.next j c here.0 hc in
      let in_first : next_of n rows' j c < k = subst (λ m. next_of n rows' j c < m) (sym same_size) b.0 in
      let there_first = same_first n L rows k t rows' k' t' (next_of n rows' j c) in_first in
      t.different (next_of n rows j c) (next_of n rows' j c) a.0 in_first
      (λ v cs. sym (a.1 v cs) ∙ ap (λ w. L ((w ++ c ∷ []) ++ v)) (sym here.1) ∙ b.1 v cs ∙ ap (λ w. L (w ++ v)) there_first.1)

  pub same_mark : (j : ℕ) → j < k → mark_of n rows j ≡ mark_of n rows' j
  same_mark j hj =
      let here = same_first n L rows k t rows' k' t' j hj in
      t.mark j hj ∙ ap (λ w. cond (L w) 1 0) (sym here.1) ∙ sym (t'.mark j here.0)
