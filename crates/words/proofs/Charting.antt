-- A chart of the states met so far, breadth first: the states before `at` have their whole row, and `at` its first k columns.
-- States, links and rows are functions of the index here; the code has them in memory.
use Rattle.std.proofs.Common.{◌≡◌, ℕ, ◌+◌, ◌^◌, ◌<◌, ◌≤◌, cond, ◌⊎◌, List, [], ◌∷◌, ◌++◌, sym, ap, ◌∙◌, subst, ap₂, subst₂, inl, inr, ⊎_elim, arith}
use Rattle.std.proofs.lemmas.Bool.{cases_lt}
use Rattle.words.specs.Words.{Columns}
use Rattle.words.specs.Order.{Before, PairBefore, PairNotAfter, nth_column, column_place}
use Rattle.words.specs.Automata.{Moves, run, reach, SameReach}
use Rattle.words.specs.Links.{trail}
use Rattle.words.specs.Residuals.{MoreThan}
use Rattle.words.proofs.Orders.{nth_below, nth_ordered, nth_place, place_nth, place_below}
use Rattle.words.proofs.Coding.{columns_push}
use Rattle.words.proofs.Runs.{run_push}
use Rattle.words.proofs.Numbering.{trail_columns, trail_leads}

-- the column c of state j was looked at
abbrev pub Done : ℕ → ℕ → ℕ → ℕ → ℕ → Type 0
Done n at k j c = (j < at) ⊎ ((j ≡ at) × (column_place n c < k))

pub record Charted {S : Type 0} (m : Moves S) (n at k met : ℕ) (state : ℕ → S) (parent column : ℕ → ℕ) (next : ℕ → ℕ → ℕ) (mark : ℕ → ℕ) : Type 0 where
  pub some : 1 ≤ met
  pub start : state 0 ≡ m.start
  -- no state was met twice
  pub apart : (i j : ℕ) → i < met → j < met → state i ≡ state j → i ≡ j
  -- each but the first was met from a lower one by a column that was looked at, and these pairs rise
  pub falls : (j : ℕ) → 0 < j → j < met → parent j < j
  pub fits : (j : ℕ) → 0 < j → j < met → column j < 2 ^ n
  pub done : (j : ℕ) → 0 < j → j < met → Done n at k (parent j) (column j)
  pub joins : (j : ℕ) → 0 < j → j < met → state j ≡ m.next (state (parent j)) (column j)
  pub rising : (i j : ℕ) → 0 < i → i < j → j < met → PairBefore (parent i) (column i) (parent j) (column j)
  -- the rows lead where the kind leads, and no state was met later than by this column
  pub rows : (j c : ℕ) → j < met → c < 2 ^ n → Done n at k j c
      → (next j c < met) × (state (next j c) ≡ m.next (state j) c) × (0 < next j c → PairNotAfter (parent (next j c)) (column (next j c)) j c)
  pub marks : (j : ℕ) → j < at → mark j ≡ cond (m.final (state j)) 1 0

-- ---- the start

pub chart_start : {S : Type 0} (m : Moves S) (n : ℕ) (state : ℕ → S) (parent column : ℕ → ℕ) (next : ℕ → ℕ → ℕ) (mark : ℕ → ℕ)
    → state 0 ≡ m.start → Charted m n 0 0 1 state parent column next mark
chart_start m n state parent column next mark begins = record {
  some = omega arith;
  start = begins;
  apart = λ i j hi hj e. omega arith;
  falls = λ j h w. absurd (omega arith);
  fits = λ j h w. absurd (omega arith);
  done = λ j h w. absurd (omega arith);
  joins = λ j h w. absurd (omega arith);
  rising = λ i j h l w. absurd (omega arith);
  rows = λ j c hj hc d. absurd (none j c d);
  marks = λ j h. absurd (omega arith);
}
  where
    none : (j c : ℕ) → Done n 0 0 j c → ⊥
    none j c (inl h) = omega arith
    none j c (inr h) = omega (arith, h.1)

-- ---- other memory with the same contents

module _ {S : Type 0} (m : Moves S) (n at k met : ℕ) (state : ℕ → S) (parent column : ℕ → ℕ) (next : ℕ → ℕ → ℕ) (mark : ℕ → ℕ)
    (chart : Charted m n at k met state parent column next mark)
    (state' : ℕ → S) (parent' column' : ℕ → ℕ) (next' : ℕ → ℕ → ℕ) (mark' : ℕ → ℕ)
    (same_state : (j : ℕ) → j < met → state' j ≡ state j)
    (same_parent : (j : ℕ) → j < met → parent' j ≡ parent j)
    (same_column : (j : ℕ) → j < met → column' j ≡ column j)
    (same_next : (j c : ℕ) → j < met → c < 2 ^ n → Done n at k j c → next' j c ≡ next j c)
    (same_mark : (j : ℕ) → j < at → mark' j ≡ mark j)
    (behind : at ≤ met)
  where
    next_same : (j c : ℕ) → j < met → (x : ℕ) → (x < met) × (state x ≡ m.next (state j) c) × (0 < x → PairNotAfter (parent x) (column x) j c)
        → (x < met) × (state' x ≡ m.next (state' j) c) × (0 < x → PairNotAfter (parent' x) (column' x) j c)
    next_same j c hj x h = (
      h.0,
      same_state x h.0 ∙ h.1 ∙ ap (λ s. m.next s c) (sym (same_state j hj)),
      λ p. subst₂ (λ a b. PairNotAfter a b j c) (sym (same_parent x h.0)) (sym (same_column x h.0)) (h.2 p),
    )

    pub chart_same : Charted m n at k met state' parent' column' next' mark'
    chart_same = record {
      some = chart.some;
      start = same_state 0 chart.some ∙ chart.start;
      apart = λ i j hi hj e. chart.apart i j hi hj (sym (same_state i hi) ∙ e ∙ same_state j hj);
      falls = λ j h w. subst (λ p. p < j) (sym (same_parent j w)) (chart.falls j h w);
      fits = λ j h w. subst (λ c. c < 2 ^ n) (sym (same_column j w)) (chart.fits j h w);
      done = λ j h w. subst₂ (λ p c. Done n at k p c) (sym (same_parent j w)) (sym (same_column j w)) (chart.done j h w);
      joins = λ j h w.
          let low : parent j < met = omega (arith, chart.falls j h w) in
          same_state j w ∙ chart.joins j h w
          ∙ ap₂ m.next (sym (same_state (parent j) low) ∙ ap state' (sym (same_parent j w))) (sym (same_column j w));
      rising = λ i j h l w.
          let wi : i < met = omega arith in
          subst₂ (λ p c. PairBefore p c (parent' j) (column' j)) (sym (same_parent i wi)) (sym (same_column i wi))
          (subst₂ (λ p c. PairBefore (parent i) (column i) p c) (sym (same_parent j w)) (sym (same_column j w)) (chart.rising i j h l w));
      rows = λ j c hj hc d.
          subst (λ x. (x < met) × (state' x ≡ m.next (state' j) c) × (0 < x → PairNotAfter (parent' x) (column' x) j c)) (sym (same_next j c hj hc d))
          (next_same j c hj (next j c) (chart.rows j c hj hc d));
      marks = λ j h. same_mark j h ∙ chart.marks j h ∙ ap (λ s. cond (m.final s) 1 0) (sym (same_state j (omega arith)));
    }

-- ---- one column more

module _ {S : Type 0} (m : Moves S) (n at k met : ℕ) (state : ℕ → S) (parent column : ℕ → ℕ) (next : ℕ → ℕ → ℕ) (mark : ℕ → ℕ)
    (chart : Charted m n at k met state parent column next mark) (here : at < met) (left : k < 2 ^ n)
  where
    -- what was looked at is before what is looked at now
    was_before : (j c : ℕ) → c < 2 ^ n → Done n at k j c → PairBefore j c at (nth_column n k)
    was_before j c hc (inl h) = inl h
    was_before j c hc (inr h) =
        inr (h.0, subst (λ x. Before x (nth_column n k)) (nth_place n c hc) (nth_ordered n (column_place n c) k h.1 left))

    still : (j c : ℕ) → Done n at k j c → Done n at (k + 1) j c
    still j c (inl h) = inl h
    still j c (inr h) = inr (h.0, (let l = h.1 in omega arith))

    -- the pair that is new, or an old one
    split : (j c : ℕ) → c < 2 ^ n → Done n at (k + 1) j c → Done n at k j c ⊎ ((j ≡ at) × (c ≡ nth_column n k))
    split j c hc (inl h) = inl (inl h)
    split j c hc (inr h) =
        ⊎_elim (λ l. inl (inr (h.0, l))) (λ l. inr (h.0, sym (nth_place n c hc) ∙ ap (nth_column n) (last l h.1))) (cases_lt (column_place n c) k)
      where
        last : k ≤ column_place n c → column_place n c < k + 1 → column_place n c ≡ k
        last l u = omega arith

    -- it led to a state that was met before
    pub chart_old : (j : ℕ) → j < met → state j ≡ m.next (state at) (nth_column n k) → next at (nth_column n k) ≡ j
        → Charted m n at (k + 1) met state parent column next mark
    chart_old t within leads is = record {
      some = chart.some;
      start = chart.start;
      apart = chart.apart;
      falls = chart.falls;
      fits = chart.fits;
      done = λ j h w. still (parent j) (column j) (chart.done j h w);
      joins = chart.joins;
      rising = chart.rising;
      rows = λ j c hj hc d. ⊎_elim (chart.rows j c hj hc) (λ e. fresh j c e.0 e.1) (split j c hc d);
      marks = chart.marks;
    }
      where
        fresh : (j c : ℕ) → j ≡ at → c ≡ nth_column n k
            → (next j c < met) × (state (next j c) ≡ m.next (state j) c) × (0 < next j c → PairNotAfter (parent (next j c)) (column (next j c)) j c)
        fresh j c ej ec =
            let go : next j c ≡ t = ap₂ next ej ec ∙ is in
            subst (λ x. (x < met) × (state x ≡ m.next (state j) c) × (0 < x → PairNotAfter (parent x) (column x) j c)) (sym go) (
              within,
              leads ∙ ap₂ (λ a b. m.next (state a) b) (sym ej) (sym ec),
              λ p. inl (subst₂ (λ a b. PairBefore (parent t) (column t) a b) (sym ej) (sym ec) (was_before (parent t) (column t) (chart.fits t p within) (chart.done t p within))),
            )

    -- it led to a new state
    pub chart_new : ((j : ℕ) → j < met → state j ≡ m.next (state at) (nth_column n k) → ⊥)
        → state met ≡ m.next (state at) (nth_column n k) → parent met ≡ at → column met ≡ nth_column n k → next at (nth_column n k) ≡ met
        → Charted m n at (k + 1) (met + 1) state parent column next mark
    chart_new unmet leads from by is = record {
      some = omega arith;
      start = chart.start;
      apart = λ i j hi hj e. apart i j (cases_lt i met) (cases_lt j met) hi hj e;
      falls = λ j h w. ⊎_elim (chart.falls j h) (λ l. let e : j ≡ met = omega arith in subst (λ x. parent x < x) (sym e) (subst (λ p. p < met) (sym from) here)) (cases_lt j met);
      fits = λ j h w. ⊎_elim (chart.fits j h) (λ l. let e : j ≡ met = omega arith in subst (λ x. column x < 2 ^ n) (sym e) (subst (λ c. c < 2 ^ n) (sym by) (nth_below n k left))) (cases_lt j met);
      done = λ j h w. ⊎_elim (λ l. still (parent j) (column j) (chart.done j h l)) (λ l. let e : j ≡ met = omega arith in subst (λ x. Done n at (k + 1) (parent x) (column x)) (sym e) new_done) (cases_lt j met);
      joins = λ j h w. ⊎_elim (chart.joins j h) (λ l. let e : j ≡ met = omega arith in subst (λ x. state x ≡ m.next (state (parent x)) (column x)) (sym e) (leads ∙ ap₂ (λ a b. m.next (state a) b) (sym from) (sym by))) (cases_lt j met);
      rising = λ i j h l w. ⊎_elim (chart.rising i j h l) (λ g. let e : j ≡ met = omega arith in subst (λ x. PairBefore (parent i) (column i) (parent x) (column x)) (sym e) (last i h (omega arith))) (cases_lt j met);
      rows = λ j c hj hc d. ⊎_elim (λ old. ⊎_elim (λ l. grown j c (chart.rows j c l hc old)) (λ l. absurd (not_yet j c (omega arith) old)) (cases_lt j met)) (λ e. fresh j c e.0 e.1) (split j c hc d);
      marks = chart.marks;
    }
      where
        apart : (i j : ℕ) → (i < met) ⊎ (met ≤ i) → (j < met) ⊎ (met ≤ j) → i < met + 1 → j < met + 1 → state i ≡ state j → i ≡ j
        apart i j (inl a) (inl b) hi hj e = chart.apart i j a b e
        apart i j (inl a) (inr b) hi hj e = let z : j ≡ met = omega arith in absurd (unmet i a (e ∙ ap state z ∙ leads))
        apart i j (inr a) (inl b) hi hj e = let z : i ≡ met = omega arith in absurd (unmet j b (sym e ∙ ap state z ∙ leads))
        apart i j (inr a) (inr b) hi hj e = omega arith

        new_done : Done n at (k + 1) (parent met) (column met)
        new_done = inr (from, (let p : column_place n (column met) ≡ k = ap (column_place n) by ∙ place_nth n k left in omega arith))

        last : (i : ℕ) → 0 < i → i < met → PairBefore (parent i) (column i) (parent met) (column met)
        last i h w = subst₂ (λ a b. PairBefore (parent i) (column i) a b) (sym from) (sym by) (was_before (parent i) (column i) (chart.fits i h w) (chart.done i h w))

        grown : (j c : ℕ) → (next j c < met) × (state (next j c) ≡ m.next (state j) c) × (0 < next j c → PairNotAfter (parent (next j c)) (column (next j c)) j c)
            → (next j c < met + 1) × (state (next j c) ≡ m.next (state j) c) × (0 < next j c → PairNotAfter (parent (next j c)) (column (next j c)) j c)
        grown j c h = ((let l = h.0 in omega arith), h.1, h.2)

        not_yet : (j c : ℕ) → met ≤ j → Done n at k j c → ⊥
        not_yet j c h (inl l) = omega arith
        not_yet j c h (inr l) = let e = l.0 in omega arith

        fresh : (j c : ℕ) → j ≡ at → c ≡ nth_column n k
            → (next j c < met + 1) × (state (next j c) ≡ m.next (state j) c) × (0 < next j c → PairNotAfter (parent (next j c)) (column (next j c)) j c)
        fresh j c ej ec =
            let go : next j c ≡ met = ap₂ next ej ec ∙ is in
            subst (λ x. (x < met + 1) × (state x ≡ m.next (state j) c) × (0 < x → PairNotAfter (parent x) (column x) j c)) (sym go)
            (omega arith, leads ∙ ap₂ (λ a b. m.next (state a) b) (sym ej) (sym ec), λ p. inr (from ∙ sym ej, by ∙ sym ec))

    -- it led to a new state, for which there is no room: so many states and one more are reached
    module _ (unmet : (j : ℕ) → j < met → state j ≡ m.next (state at) (nth_column n k) → ⊥) where
      word : (j : ℕ) → (j < met) ⊎ (met ≤ j) → List ℕ
      word j (inl h) = trail parent column j
      word j (inr h) = trail parent column at ++ nth_column n k ∷ []

      leads : (j : ℕ) → j < met → reach m (trail parent column j) ≡ state j
      leads j w =
          ap (λ s. run m.next s (trail parent column j)) (sym chart.start)
          ∙ trail_leads n met parent column chart.falls chart.fits m.next state chart.joins j w

      leads_new : reach m (trail parent column at ++ nth_column n k ∷ []) ≡ m.next (state at) (nth_column n k)
      leads_new = run_push m.next m.start (trail parent column at) (nth_column n k) ∙ ap (λ s. m.next s (nth_column n k)) (leads at here)

      word_columns : (j : ℕ) (x : (j < met) ⊎ (met ≤ j)) → Columns n (word j x)
      unfolding word
      word_columns j (inl h) = trail_columns n met parent column chart.falls chart.fits j h
      word_columns j (inr h) =
          columns_push n (trail parent column at) (nth_column n k) (trail_columns n met parent column chart.falls chart.fits at here) (nth_below n k left)

      word_apart : (i j : ℕ) (x : (i < met) ⊎ (met ≤ i)) (y : (j < met) ⊎ (met ≤ j)) → i ≤ met → j ≤ met → SameReach m (word i x) (word j y) → i ≡ j
      unfolding word
      word_apart i j (inl a) (inl b) hi hj e = chart.apart i j a b (sym (leads i a) ∙ e ∙ leads j b)
      word_apart i j (inl a) (inr b) hi hj e = absurd (unmet i a (sym (leads i a) ∙ e ∙ leads_new))
      word_apart i j (inr a) (inl b) hi hj e = absurd (unmet j b (sym (leads j b) ∙ sym e ∙ leads_new))
      word_apart i j (inr a) (inr b) hi hj e = omega arith

      pub chart_more : MoreThan n (SameReach m) met
      chart_more = record {
        word = λ j. word j (cases_lt j met);
        columns = λ j h. word_columns j (cases_lt j met);
        different = λ i j hi hj e. word_apart i j (cases_lt i met) (cases_lt j met) hi hj e;
      }

-- ---- a whole row

pub chart_row : {S : Type 0} (m : Moves S) (n at met : ℕ) (state : ℕ → S) (parent column : ℕ → ℕ) (next : ℕ → ℕ → ℕ) (mark : ℕ → ℕ)
    → Charted m n at (2 ^ n) met state parent column next mark → mark at ≡ cond (m.final (state at)) 1 0
    → Charted m n (at + 1) 0 met state parent column next mark
chart_row m n at met state parent column next mark chart is = record {
  some = chart.some;
  start = chart.start;
  apart = chart.apart;
  falls = chart.falls;
  fits = chart.fits;
  done = λ j h w. up (parent j) (column j) (chart.done j h w);
  joins = chart.joins;
  rising = chart.rising;
  rows = λ j c hj hc d. chart.rows j c hj hc (down j c hc d);
  marks = λ j h. ⊎_elim (chart.marks j) (λ l. let e : j ≡ at = omega arith in subst (λ x. mark x ≡ cond (m.final (state x)) 1 0) (sym e) is) (cases_lt j at);
}
  where
    up : (j c : ℕ) → Done n at (2 ^ n) j c → Done n (at + 1) 0 j c
    up j c (inl h) = inl (omega arith)
    up j c (inr h) = inl (let e = h.0 in omega arith)

    down : (j c : ℕ) → c < 2 ^ n → Done n (at + 1) 0 j c → Done n at (2 ^ n) j c
    down j c hc (inl h) = ⊎_elim inl (λ l. inr ((let e : j ≡ at = omega arith in e), place_below n c hc)) (cases_lt j at)
    down j c hc (inr h) = absurd (let l = h.1 in omega arith)
