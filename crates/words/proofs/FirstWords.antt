-- The first words of the states of a table. That of a state but the first ends in the column of the first pair of a row and
-- a column that leads to the state, and the first word of that row comes before it.
use Rattle.std.proofs.Common.{◌≡◌, ℕ, ◌^◌, ◌<◌, Bool, ◌⊎◌, List, [], ◌∷◌, ◌++◌, length, sym, refl, ap, ◌∙◌, subst, ap₂, inl, inr, arith}
use Rattle.std.proofs.lemmas.Bool.{cases_order}
use Rattle.std.proofs.lemmas.List.{length_push, append_assoc}
use Rattle.words.specs.Words.{Columns}
use Rattle.words.specs.Order.{Precedes, NotLater, PairNotAfter}
use Rattle.words.specs.Rows.{next_of}
use Rattle.words.specs.Residuals.{SameResidual}
use Rattle.words.specs.TableOf.{TableOf}
use Rattle.words.proofs.Orders.{never, chain, push_before, push_same}
use Rattle.words.proofs.Coding.{columns_push, columns_front, columns_last}
use Rattle.words.proofs.Runs.{snoc_ind}
use Rattle.words.proofs.TableLaws.{level}

pub not_later_chain : (u w v : List ℕ) → NotLater u w → NotLater w v → NotLater u v
not_later_chain u w v (inl e) k = subst (λ x. NotLater x v) (sym e) k
not_later_chain u w v (inr p) (inl e) = inr (subst (Precedes u) e p)
not_later_chain u w v (inr p) (inr q) = inr (chain u w v p q)

pub not_later_push : (u w : List ℕ) (c : ℕ) → NotLater u w → NotLater (u ++ c ∷ []) (w ++ c ∷ [])
not_later_push u w c (inl e) = inl (ap (λ x. x ++ c ∷ []) e)
not_later_push u w c (inr p) = inr (push_before u w c c p)

-- a word has no column, or a last one
Ended : List ℕ → Type 0
Ended w = (w ≡ []) ⊎ ((u : List ℕ) × (c : ℕ) × (w ≡ u ++ c ∷ []))

ended : (w : List ℕ) → Ended w
unfolding Ended
ended = snoc_ind Ended (inl refl) (λ u c h. inr (u, c, refl))

module _ (n : ℕ) (L : List ℕ → Bool) (rows : List ℕ) (size : ℕ) (t : TableOf n L rows size) where
  -- no word with the residual of a state is earlier than its first word
  pub not_earlier : (j : ℕ) (w : List ℕ) → j < size → Columns n w → SameResidual n L w (t.first j) → NotLater (t.first j) w
  not_earlier j w h cs same =
      let e = t.every w cs in
      let is : e.0 ≡ j = t.different e.0 j e.1 h (λ v vs. sym (e.2 v vs) ∙ same v vs) in
      subst (λ i. NotLater (t.first i) w) is e.3

  -- nor is the word by a pair that leads to it
  not_later_led : (j r c : ℕ) → r < size → c < 2 ^ n → next_of n rows r c ≡ j → NotLater (t.first j) (t.first r ++ c ∷ [])
  not_later_led j r c hr hc is =
      let goes = t.next r c hr hc in
      not_earlier j (t.first r ++ c ∷ []) (subst (λ i. i < size) is goes.0) (columns_push n (t.first r) c (t.columns r hr) hc)
      (subst (λ i. SameResidual n L (t.first r ++ c ∷ []) (t.first i)) is goes.1)

  -- words by pairs are in the order of the pairs
  not_later_pair : (r c s d : ℕ) → s < size → PairNotAfter r c s d → NotLater (t.first r ++ c ∷ []) (t.first s ++ d ∷ [])
  not_later_pair r c s d hs (inl (inl low)) = inr (push_before (t.first r) (t.first s) c d (t.ordered r s low hs))
  not_later_pair r c s d hs (inl (inr at)) = inr (subst (λ x. Precedes (t.first r ++ c ∷ []) (t.first x ++ d ∷ [])) at.0 (push_same (t.first r) c d at.1))
  not_later_pair r c s d hs (inr same) = inl (ap₂ (λ x y. t.first x ++ y ∷ []) same.0 same.1)

  not_empty : (j : ℕ) → 0 < j → j < size → t.first j ≡ [] → ⊥
  not_empty j some h e = never [] (subst (λ w. Precedes w []) t.start (subst (Precedes (t.first 0)) e (t.ordered 0 j some h)))

  -- the row of a last column is below its state
  row_below : (j r c : ℕ) → j < size → r < size → t.first j ≡ t.first r ++ c ∷ [] → r < j
  row_below j r c hj hr is = go (cases_order r j)
    where
      shorter : length (t.first r) < length (t.first j)
      shorter = omega (arith, ap length is, length_push (t.first r) c)

      go : (r ≡ j) ⊎ ((r < j) ⊎ (j < r)) → r < j
      go (inl e) = absurd (omega (arith, shorter, ap (λ x. length (t.first x)) e))
      go (inr (inl l)) = l
      go (inr (inr l)) = absurd (never (t.first j) (chain (t.first j) (t.first r) (t.first j) (t.ordered j r l hr) (inl shorter)))

  -- some pair that leads to a state gives its first word
  abbrev Pair : ℕ → Type 0
  Pair j = (r : ℕ) × (c : ℕ) × (r < j) × (c < 2 ^ n) × (next_of n rows r c ≡ j) × (t.first j ≡ t.first r ++ c ∷ [])

  pub some_pair : (j : ℕ) → 0 < j → j < size → Pair j
  unfolding Ended
  some_pair j some hj = go (ended (t.first j))
    where
      go : Ended (t.first j) → Pair j
      go (inl e) = absurd (not_empty j some hj e)
      go (inr (u, c, e)) =
          let cs : Columns n (u ++ c ∷ []) = subst (Columns n) e (t.columns j hj) in
          let hc : c < 2 ^ n = columns_last n u c cs in
          let at = t.every u (columns_front n u c cs) in
          let goes = t.next at.0 c at.1 hc in
          let same : SameResidual n L (u ++ c ∷ []) (t.first at.0 ++ c ∷ []) =
          λ v vs. grind (arith, append_assoc u (c ∷ []) v, at.2 (c ∷ v) (hc, vs), append_assoc (t.first at.0) (c ∷ []) v) in
          let is : next_of n rows at.0 c ≡ j =
          t.different (next_of n rows at.0 c) j goes.0 hj (λ v vs. sym (goes.1 v vs) ∙ sym (same v vs) ∙ ap (λ w. L (w ++ v)) (sym e)) in
          let first : t.first j ≡ t.first at.0 ++ c ∷ [] =
          level (t.first j) (t.first at.0 ++ c ∷ []) (not_later_led j at.0 c at.1 hc is)
          (subst (NotLater (t.first at.0 ++ c ∷ [])) (sym e) (not_later_push (t.first at.0) u c at.3)) in
          (at.0, c, row_below j at.0 c hj at.1 first, hc, is, first)

  -- and so the first such pair does
  pub first_pair : (j r c : ℕ) → j < size → r < j → c < 2 ^ n → next_of n rows r c ≡ j
      → ((s d : ℕ) → s < j → d < 2 ^ n → next_of n rows s d ≡ j → PairNotAfter r c s d) → t.first j ≡ t.first r ++ c ∷ []
  first_pair j r c hj hr hc is first =
      let p = some_pair j (omega arith) hj in
      let low : p.0 < j = p.2 in
      level (t.first j) (t.first r ++ c ∷ []) (not_later_led j r c (omega arith) hc is)
      (subst (NotLater (t.first r ++ c ∷ [])) (sym p.5)
      (not_later_pair r c p.0 p.1 (omega arith) (first p.0 p.1 p.2 p.3 p.4)))
