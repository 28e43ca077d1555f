-- One column more of a chart, in memory.
use Rattle.std.proofs.Common.{◌≡◌, ℕ, ◌+◌, ◌*◌, ◌%◌, ◌^◌, ◌<◌, Bool, true, false, cond, List, length, set, Ok, Err, Result, sym, refl, ap, ◌∙◌, subst, inl, inr, lt_of_lt_of_le, mod-eq_of_lt, arith, pow_mono}
use mir.Val.{bool_byte}
use Rattle.std.proofs.lemmas.Grind.{common_steps}
use Rattle.words.specs.Automata.{Moves, SameReach}
use Rattle.words.specs.Residuals.{MoreThan}
use Rattle.words.specs.Order.{nth_column, column_place}
use Rattle.words.specs.Rows.{width, next_of, mark_of}
use Rattle.words.specs.Links.{parent_of, column_of}
use Rattle.words.proofs.Orders.{nth_below, place_nth}
use Rattle.words.proofs.Charting.{Done, chart_same, chart_old, chart_new, chart_row, chart_more}
use Rattle.words.proofs.Cells.{write_here, write_there, cell_below}
use Rattle.tables.specs.Chart.{Chart, Unmet, moves_of, state_of, after, Charts, New, Onward, Follows, Extends}
use Rattle.tables.specs.Explored.{record_of}
use Rattle.tables.specs.declared.exploration.Unexplored.{Unexplored}
use Rattle.tables.specs.declared.exploration.Unexplored.TheVariants.{NoRoom, TooMany}
use Rattle.tables.specs.declared.kind.Kind.{Ghosts}
use Rattle.tables.specs.declared.exploration.Search.{Search}

module _ {S : Type 0} (m : Moves S) (n at k met : ℕ) (records : List S) (links rows : List ℕ)
    (chart : Chart m n at k met records links rows) (here : at < met) (left : k < 2 ^ n) (v : ℕ)
    (inside : at * width n + nth_column n k < length rows)
  where
    narrow : nth_column n k < width n
    narrow = omega (arith, nth_below n k left)

    next_same : (j c : ℕ) → j < met → c < 2 ^ n → Done n at k j c → next_of n (set rows (at * width n + nth_column n k) v) j c ≡ next_of n rows j c
    next_same j c hj hc done = write_there n rows at (nth_column n k) v narrow j c (omega arith) (λ e. other done e.0 e.1)
      where
        other : Done n at k j c → j ≡ at → c ≡ nth_column n k → ⊥
        other (inl h) ej ec = omega arith
        other (inr h) ej ec = omega (arith, h.1, ap (column_place n) ec, place_nth n k left)

    mark_same : (j : ℕ) → j < at → mark_of n (set rows (at * width n + nth_column n k) v) j ≡ mark_of n rows j
    mark_same j h = write_there n rows at (nth_column n k) v narrow j (2 ^ n) (omega arith) (λ e. let x = e.0 in omega arith)

    written_cell : next_of n (set rows (at * width n + nth_column n k) v) at (nth_column n k) ≡ v
    written_cell = write_here n rows at (nth_column n k) v narrow inside

    -- the column led to a record
    pub column_old : v < met → record_of m records v ≡ m.next (record_of m records at) (nth_column n k)
        → Chart m n at (k + 1) met records links (set rows (at * width n + nth_column n k) v)
    column_old within leads =
        chart_old m n at k met (record_of m records) (parent_of links) (column_of links) (next_of n (set rows (at * width n + nth_column n k) v)) (mark_of n (set rows (at * width n + nth_column n k) v))
        (chart_same m n at k met (record_of m records) (parent_of links) (column_of links) (next_of n rows) (mark_of n rows) chart
        (record_of m records) (parent_of links) (column_of links) (next_of n (set rows (at * width n + nth_column n k) v)) (mark_of n (set rows (at * width n + nth_column n k) v))
        (λ j h. refl) (λ j h. refl) (λ j h. refl) next_same mark_same (omega arith))
        here left v within leads written_cell

module _ {S : Type 0} (m : Moves S) (n at k met : ℕ) (records : List S) (links rows : List ℕ)
    (chart : Chart m n at k met records links rows) (here : at < met) (left : k < 2 ^ n)
    (inside : at * width n + nth_column n k < length rows)
    (room : met < length records) (linked : 2 * met + 1 < length links)
    (unmet : Unmet m met records (m.next (record_of m records at) (nth_column n k)))
  where
    -- the records, links and rows with the new state
    abbrev records⁺ : List S
    records⁺ = set records met (m.next (record_of m records at) (nth_column n k))

    abbrev links⁺ : List ℕ
    links⁺ = set (set links (2 * met) at) (2 * met + 1) (nth_column n k)

    abbrev rows⁺ : List ℕ
    rows⁺ = set rows (at * width n + nth_column n k) met

    state_same : (j : ℕ) → j < met → record_of m records⁺ j ≡ record_of m records j
    state_same j h = grind (arith, common_steps)

    state_new : record_of m records⁺ met ≡ m.next (record_of m records at) (nth_column n k)
    state_new = grind (arith, common_steps)

    parent_same : (j : ℕ) → j < met → parent_of links⁺ j ≡ parent_of links j
    parent_same j h = grind (arith, common_steps)

    column_same : (j : ℕ) → j < met → column_of links⁺ j ≡ column_of links j
    column_same j h = grind (arith, common_steps)

    parent_new : parent_of links⁺ met ≡ at
    parent_new = grind (arith, common_steps)

    column_new_is : column_of links⁺ met ≡ nth_column n k
    column_new_is = grind (arith, common_steps)

    -- the column led to a new state
    pub column_new : Chart m n at (k + 1) (met + 1) records⁺ links⁺ rows⁺
    column_new =
        let from : record_of m records⁺ at ≡ record_of m records at = state_same at here in
        chart_new m n at k met (record_of m records⁺) (parent_of links⁺) (column_of links⁺) (next_of n rows⁺) (mark_of n rows⁺)
        (chart_same m n at k met (record_of m records) (parent_of links) (column_of links) (next_of n rows) (mark_of n rows) chart
        (record_of m records⁺) (parent_of links⁺) (column_of links⁺) (next_of n rows⁺) (mark_of n rows⁺)
        state_same parent_same column_same
        (next_same m n at k met records links rows chart here left met inside) (mark_same m n at k met records links rows chart here left met inside) (omega arith))
        here left
        (λ j h e. unmet j h (sym (state_same j h) ∙ e ∙ ap (λ s. m.next s (nth_column n k)) from))
        (state_new ∙ ap (λ s. m.next s (nth_column n k)) (sym from))
        parent_new column_new_is (written_cell m n at k met records links rows chart here left met inside)

-- ---- the marks

-- the row of `at` is whole once its mark is written
pub row_done : {S : Type 0} (m : Moves S) (n at met : ℕ) (records : List S) (links rows : List ℕ) (v : ℕ)
    → Chart m n at (2 ^ n) met records links rows → at < met → at * width n + 2 ^ n < length rows → v ≡ cond (m.final (record_of m records at)) 1 0
    → Chart m n (at + 1) 0 met records links (set rows (at * width n + 2 ^ n) v)
row_done m n at met records links rows v chart here inside is =
    let last : 2 ^ n < width n = omega arith in
    let rows⁺ = set rows (at * width n + 2 ^ n) v in
    chart_row m n at met (record_of m records) (parent_of links) (column_of links) (next_of n rows⁺) (mark_of n rows⁺)
    (chart_same m n at (2 ^ n) met (record_of m records) (parent_of links) (column_of links) (next_of n rows) (mark_of n rows) chart
    (record_of m records) (parent_of links) (column_of links) (next_of n rows⁺) (mark_of n rows⁺)
    (λ j h. refl) (λ j h. refl) (λ j h. refl)
    (λ j c hj hc d. write_there n rows at (2 ^ n) v last j c (omega arith) (λ e. let x = e.1 in omega arith))
    (λ j h. write_there n rows at (2 ^ n) v last j (2 ^ n) (omega arith) (λ e. let x = e.0 in omega arith))
    (omega arith))
    (write_here n rows at (2 ^ n) v last inside ∙ is)

-- ---- what a column comes to, as the code has it

module _ {K S : Type 0} {g : Ghosts K S} (s : Search K S g) (at k : ℕ)
    (chart : Charts s at k) (here : at < s.met) (left : k < 2 ^ s.limits.sets)
  where
    -- within the limits the columns do not begin anew
    column_is : nth_column s.limits.sets (k % 256) ≡ nth_column s.limits.sets k
    column_is = ap (nth_column s.limits.sets) (mod-eq_of_lt (lt_of_lt_of_le left (pow_mono s.room.sets)))

    small : nth_column s.limits.sets k < width s.limits.sets
    small = omega (arith, nth_below s.limits.sets k left)

    inside : at * width s.limits.sets + nth_column s.limits.sets k < length s.rows.now
    inside = omega (arith, cell_below (width s.limits.sets) s.limits.budget at (nth_column s.limits.sets k) (omega (arith, s.few)) small, s.room.rows_enough)

    over : s.met ≡ s.limits.budget → New s (after s at (nth_column s.limits.sets k)) → MoreThan s.limits.sets (SameReach (moves_of s)) s.limits.budget
    over full new =
        subst (MoreThan s.limits.sets (SameReach (moves_of s))) full
        (chart_more (moves_of s) s.limits.sets at k s.met (state_of s) (parent_of s.links.now) (column_of s.links.now)
        (next_of s.limits.sets s.rows.now) (mark_of s.limits.sets s.rows.now) chart here left new)

    module _ (s' : Search K S g) (onward : Onward s s') (to : ℕ) where
      step : Follows s at (nth_column s.limits.sets k) s' (Ok to)
          → Chart (g.moves s'.kind.now) s'.limits.sets at (k + 1) s'.met s'.records.now s'.links.now (set s.rows.now (at * width s.limits.sets + nth_column s.limits.sets k) to)
      step (inl old) =
          rw (onward.kind, onward.limits, old.met, old.records, old.links)
          (column_old (moves_of s) s.limits.sets at k s.met s.records.now s.links.now s.rows.now chart here left to inside old.within old.leads)
      step (inr new) =
          let few : s.met < s.limits.budget = omega (arith, new.met, s'.few, ap (λ l. l.budget) onward.limits) in
          rw (onward.kind, onward.limits, new.met, new.last, new.records, new.links)
          (column_new (moves_of s) s.limits.sets at k s.met s.records.now s.links.now s.rows.now chart here left inside
          (omega (arith, few, s.room.records_enough)) (omega (arith, few, s.room.links_enough)) new.new)

    -- the same of the column that the code looks at
    module _ (column : ℕ) (is : column ≡ nth_column s.limits.sets (k % 256)) where
      exact : column ≡ nth_column s.limits.sets k
      exact = is ∙ column_is

      pub column_inside : at * width s.limits.sets + column < length s.rows.now
      column_inside = rw exact inside

      pub column_over : (s' : Search K S g) (why : Unexplored) → Follows s at column s' (Err why)
          → (result : Result Unit Unexplored) → result ≡ Err why → Extends s at (k + 1) s' result
      column_over s' TooMany h result e = rw e (over h.0 (rw exact at h.1))
      column_over s' NoRoom h result e = absurd h

      pub column_step : (s' : Search K S g) → Onward s s' → (to : ℕ) → Follows s at column s' (Ok to)
          → (rows' : List ℕ) → rows' ≡ set s.rows.now (at * width s.limits.sets + column) to
          → Chart (g.moves s'.kind.now) s'.limits.sets at (k + 1) s'.met s'.records.now s'.links.now rows'
      column_step s' onward to h rows' e = rw (e, exact) (step s' onward to (rw exact at h))

pub byte_is : (b : Bool) → bool_byte b ≡ cond b 1 0
byte_is true = refl
byte_is false = refl

-- the end of a row, as the code has it
module _ {K S : Type 0} {g : Ghosts K S} (s : Search K S g) (at : ℕ) (here : at < s.met) where
  mark_inside : at * width s.limits.sets + 2 ^ s.limits.sets < length s.rows.now
  mark_inside = omega (arith, cell_below (width s.limits.sets) s.limits.budget at (2 ^ s.limits.sets) (omega (arith, s.few)) (omega arith), s.room.rows_enough)

  pub row_end : (k : ℕ) → k ≡ 2 ^ s.limits.sets → Charts s at k → (accepts : Bool) → accepts ≡ (moves_of s).final (state_of s at)
      → (rows' : List ℕ) → rows' ≡ set s.rows.now (at * width s.limits.sets + 2 ^ s.limits.sets) (bool_byte accepts)
      → Chart (g.moves s.kind.now) s.limits.sets (at + 1) 0 s.met s.records.now s.links.now rows'
  row_end k all chart accepts is rows' e =
      rw e
      (row_done (moves_of s) s.limits.sets at s.met s.records.now s.links.now s.rows.now (bool_byte accepts)
      (subst (Charts s at) all chart) here mark_inside (byte_is accepts ∙ ap (λ b. cond b 1 0) is))
