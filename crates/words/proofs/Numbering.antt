-- Breadth-first numbering. The states of a table were numbered as they were met: each but the first from its parent by a
-- column, and both in order. Then the words through the parents are in order, and each is the earliest that leads to its state.
use Rattle.std.proofs.Common.{◌≡◌, ℕ, zero, suc, ◌^◌, ◌<◌, ◌≤◌, List, [], ◌∷◌, ◌++◌, sym, refl, ap, ◌∙◌, subst, ap₂, inl, inr, le_refl, arith}
use Rattle.words.specs.Words.{Columns}
use Rattle.words.specs.Order.{Precedes, NotLater, PairBefore, PairNotAfter}
use Rattle.words.specs.Automata.{run}
use Rattle.words.specs.Links.{trace, trail}
use Rattle.words.proofs.Orders.{chain, push_before, push_same, nil_before}
use Rattle.words.proofs.Runs.{run_push, snoc_ind}
use Rattle.words.proofs.Coding.{columns_push, columns_front, columns_last}

-- with fuel enough the trace is the same
trace_enough : (parent column : ℕ → ℕ) (met : ℕ) → ((j : ℕ) → 0 < j → j < met → parent j < j)
    → (f g j : ℕ) → j ≤ f → j ≤ g → j < met → trace parent column f j ≡ trace parent column g j
trace_enough parent column met falls zero zero j hf hg within = refl
trace_enough parent column met falls zero (suc g) zero hf hg within = refl
trace_enough parent column met falls zero (suc g) (suc j) hf hg within = absurd (omega arith)
trace_enough parent column met falls (suc f) zero zero hf hg within = refl
trace_enough parent column met falls (suc f) zero (suc j) hf hg within = absurd (omega arith)
trace_enough parent column met falls (suc f) (suc g) zero hf hg within = refl
trace_enough parent column met falls (suc f) (suc g) (suc j) hf hg within =
    let low : parent (suc j) < suc j = falls (suc j) (omega arith) within in
    ap (λ w. w ++ column (suc j) ∷ []) (trace_enough parent column met falls f g (parent (suc j)) (omega arith) (omega arith) (omega arith))

-- a step from a to a word's end is kept in order by one column more
later_push : (u v : List ℕ) (a b : ℕ) → Precedes u v → NotLater (u ++ a ∷ []) (v ++ b ∷ [])
later_push u v a b h = inr (push_before u v a b h)

-- ---- trails, where each state but the first has a lower parent

module _ (n met : ℕ) (parent column : ℕ → ℕ)
    (falls : (j : ℕ) → 0 < j → j < met → parent j < j)
    (fits : (j : ℕ) → 0 < j → j < met → column j < 2 ^ n)
  where
    -- the trail of a state is its parent's, and the column that met it
    pub trail_step : (j : ℕ) → 0 < j → j < met → trail parent column j ≡ trail parent column (parent j) ++ column j ∷ []
    trail_step zero h within = absurd (omega arith)
    trail_step (suc j) h within =
        let low : parent (suc j) < suc j = falls (suc j) h within in
        ap (λ w. w ++ column (suc j) ∷ []) (trace_enough parent column met falls j (parent (suc j)) (parent (suc j)) (omega arith) (omega arith) (omega arith))

    trail_fits : (f j : ℕ) → j ≤ f → j < met → Columns n (trail parent column j)
    trail_fits f zero hf within = tt
    trail_fits zero (suc j) hf within = absurd (omega arith)
    trail_fits (suc f) (suc j) hf within =
        let low : parent (suc j) < suc j = falls (suc j) (omega arith) within in
        subst (Columns n) (sym (trail_step (suc j) (omega arith) within))
        (columns_push n (trail parent column (parent (suc j))) (column (suc j))
        (trail_fits f (parent (suc j)) (omega arith) (omega arith)) (fits (suc j) (omega arith) within))

    pub trail_columns : (j : ℕ) → j < met → Columns n (trail parent column j)
    trail_columns j within = trail_fits j j (le_refl j) within

    -- where the states are made as the links say, the trail of a state leads to it
    module _ {S : Type 0} (step : S → ℕ → S) (at : ℕ → S) (joins : (j : ℕ) → 0 < j → j < met → at j ≡ step (at (parent j)) (column j)) where
      trail_reaches : (f j : ℕ) → j ≤ f → j < met → run step (at 0) (trail parent column j) ≡ at j
      trail_reaches f zero hf within = refl
      trail_reaches zero (suc j) hf within = absurd (omega arith)
      trail_reaches (suc f) (suc j) hf within =
          let low : parent (suc j) < suc j = falls (suc j) (omega arith) within in
          ap (run step (at 0)) (trail_step (suc j) (omega arith) within)
          ∙ run_push step (at 0) (trail parent column (parent (suc j))) (column (suc j))
          ∙ ap (λ s. step s (column (suc j))) (trail_reaches f (parent (suc j)) (omega arith) (omega arith))
          ∙ sym (joins (suc j) (omega arith) within)

      pub trail_leads : (j : ℕ) → j < met → run step (at 0) (trail parent column j) ≡ at j
      trail_leads j within = trail_reaches j j (le_refl j) within

-- ---- where besides both were met in order

module _ (n met : ℕ) (next : ℕ → ℕ → ℕ) (parent column : ℕ → ℕ)
    (some : 1 ≤ met)
    (stays : (j c : ℕ) → j < met → c < 2 ^ n → next j c < met)
    (falls : (j : ℕ) → 0 < j → j < met → parent j < j)
    (fits : (j : ℕ) → 0 < j → j < met → column j < 2 ^ n)
    (least : (j c : ℕ) → j < met → c < 2 ^ n → 0 < next j c → PairNotAfter (parent (next j c)) (column (next j c)) j c)
    (rising : (i j : ℕ) → 0 < i → i < j → j < met → PairBefore (parent i) (column i) (parent j) (column j))
  where
    -- ---- the trails are in order

    -- a pair in order gives trails in order
    pairs : (i j : ℕ) → 0 < i → i < met → 0 < j → j < met → ((a b : ℕ) → a < b → b < j → b < met → Precedes (trail parent column a) (trail parent column b))
        → PairBefore (parent i) (column i) (parent j) (column j) → Precedes (trail parent column i) (trail parent column j)
    pairs i j hi wi hj wj below (inl lower) =
        let low : parent j < j = falls j hj wj in
        subst (λ u. Precedes u (trail parent column j)) (sym (trail_step n met parent column falls fits i hi wi))
        (subst (λ v. Precedes (trail parent column (parent i) ++ column i ∷ []) v) (sym (trail_step n met parent column falls fits j hj wj))
        (push_before (trail parent column (parent i)) (trail parent column (parent j)) (column i) (column j) (below (parent i) (parent j) lower low (omega arith))))
    pairs i j hi wi hj wj below (inr level) =
        subst (λ u. Precedes u (trail parent column j)) (sym (trail_step n met parent column falls fits i hi wi ∙ ap (λ p. trail parent column p ++ column i ∷ []) level.0))
        (subst (λ v. Precedes (trail parent column (parent j) ++ column i ∷ []) v) (sym (trail_step n met parent column falls fits j hj wj))
        (push_same (trail parent column (parent j)) (column i) (column j) level.1))

    trails : (f i j : ℕ) → j ≤ f → i < j → j < met → Precedes (trail parent column i) (trail parent column j)
    trails zero i j hf h within = absurd (omega arith)
    trails (suc f) zero j hf h within =
        subst (Precedes []) (sym (trail_step n met parent column falls fits j h within)) (nil_before (trail parent column (parent j)) (column j))
    trails (suc f) (suc i) j hf h within =
        pairs (suc i) j (omega arith) (omega arith) (omega arith) within
        (λ a b l lj wb. trails f a b (omega arith) l wb) (rising (suc i) j (omega arith) h within)

    pub trails_ordered : (i j : ℕ) → i < j → j < met → Precedes (trail parent column i) (trail parent column j)
    trails_ordered i j h within = trails j i j (le_refl j) h within

    -- ---- each trail is the earliest word that leads to its state

    -- one column more, where the trail of j is not later than u
    pushed : (k j c : ℕ) (u : List ℕ) → 0 < k → k < met → j < met → PairNotAfter (parent k) (column k) j c → NotLater (trail parent column j) u
        → NotLater (trail parent column k) (u ++ c ∷ [])
    pushed k j c u hk wk wj pair early = subst (λ x. NotLater x (u ++ c ∷ [])) (sym (trail_step n met parent column falls fits k hk wk)) (go pair early)
      where
        go : PairNotAfter (parent k) (column k) j c → NotLater (trail parent column j) u → NotLater (trail parent column (parent k) ++ column k ∷ []) (u ++ c ∷ [])
        go (inl (inl lower)) (inl e) =
            later_push (trail parent column (parent k)) u (column k) c (subst (Precedes (trail parent column (parent k))) e (trails_ordered (parent k) j lower wj))
        go (inl (inl lower)) (inr p) =
            later_push (trail parent column (parent k)) u (column k) c (chain (trail parent column (parent k)) (trail parent column j) u (trails_ordered (parent k) j lower wj) p)
        go (inl (inr level)) (inl e) =
            inr (subst (λ x. Precedes (x ++ column k ∷ []) (u ++ c ∷ [])) (sym (ap (trail parent column) level.0 ∙ e)) (push_same u (column k) c level.1))
        go (inl (inr level)) (inr p) =
            later_push (trail parent column (parent k)) u (column k) c (subst (λ x. Precedes (trail parent column x) u) (sym level.0) p)
        go (inr same) (inl e) =
            inl (ap₂ (λ x y. x ++ y ∷ []) (ap (trail parent column) same.0 ∙ e) same.1)
        go (inr same) (inr p) =
            later_push (trail parent column (parent k)) u (column k) c (subst (λ x. Precedes (trail parent column x) u) (sym same.0) p)

    Early : List ℕ → Type 0
    Early w = Columns n w → (run next 0 w < met) × NotLater (trail parent column (run next 0 w)) w

    early_push : (u : List ℕ) (c : ℕ) → Early u → Early (u ++ c ∷ [])
    unfolding Early
    early_push u c before cs =
        let start = before (columns_front n u c cs) in
        let small : c < 2 ^ n = columns_last n u c cs in
        let k : ℕ = next (run next 0 u) c in
        let there : run next 0 (u ++ c ∷ []) ≡ k = run_push next 0 u c in
        let within : k < met = stays (run next 0 u) c start.0 small in
        subst (λ s. (s < met) × NotLater (trail parent column s) (u ++ c ∷ [])) (sym there) (within, reached k refl within start.0 small start.1)
      where
        reached : (k : ℕ) → next (run next 0 u) c ≡ k → k < met → run next 0 u < met → c < 2 ^ n → NotLater (trail parent column (run next 0 u)) u
            → NotLater (trail parent column k) (u ++ c ∷ [])
        reached zero e within wj small early = inr (nil_before u c)
        reached (suc k) e within wj small early =
            pushed (suc k) (run next 0 u) c u (omega arith) within wj
            (subst (λ x. PairNotAfter (parent x) (column x) (run next 0 u) c) e (least (run next 0 u) c wj small (subst (λ x. 0 < x) (sym e) (omega arith)))) early

    early_nil : Early []
    unfolding Early
    early_nil cs = (some, inl refl)

    pub trail_earliest : (w : List ℕ) → Columns n w → (run next 0 w < met) × NotLater (trail parent column (run next 0 w)) w
    unfolding Early
    trail_earliest = snoc_ind Early early_nil early_push
