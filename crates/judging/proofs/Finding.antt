-- The first column and the first pair that lead to a state, found by looking at all of them in order.
use Rattle.std.proofs.Common.{◌≡◌, ◌≢◌, ℕ, ◌%◌, ◌^◌, ◌<◌, ◌≤◌, Bool, ◌⊎◌, List, map, length, get_or, Some, None, Option, MatchOption, sym, ap, ◌∙◌, subst, inl, inr, arith, mod-eq_of_lt, pow_mono}
use Rattle.std.specs.List.{range_with_len, AllWithin, HoldsAt}
use Rattle.std.proofs.lemmas.Bool.{cases_order}
use Rattle.std.proofs.lemmas.List.FromFn.{length-map-range_with_len, get_or-map-range_with_len}
use Rattle.words.specs.Automata.{Automaton}
use Rattle.words.specs.Order.{Before, nth_column, column_place}
use Rattle.words.proofs.Orders.{nth_below, nth_ordered, nth_place, place_below}
use Rattle.judging.specs.Walk.{LeadsTo, FirstColumn, FirstPair}
use Rattle.judging.specs.Lowest.{LowestState}
use Rattle.judging.specs.declared.walk.Link.{Link}

-- ---- the states

module _ (a : Automaton) (b : Bool) where
  pub lowest_found : (found : Option ℕ)
      → MatchOption found ((s : ℕ) → 0 ≤ s → s < a.states → a.accepts s ≢ b)
      (λ j. (0 ≤ j) × (j < a.states) × (a.accepts j ≡ b) × ((s : ℕ) → 0 ≤ s → s < j → a.accepts s ≢ b))
      → LowestState a b found
  lowest_found None none = λ s low. none s (omega arith) low
  lowest_found (Some j) (from, low, is, none) = (low, is, λ s below. none s (omega arith) below)

-- ---- the columns of one row

module _ (a : Automaton) (few : a.places ≤ 8) (j r : ℕ) where
  -- the first n columns in their order
  abbrev pub in_order : ℕ → List ℕ
  in_order n = map (λ k. nth_column a.places (k % 256)) (range_with_len 0 n)

  -- a column that leads elsewhere
  abbrev pub Other : ℕ → Type 0
  Other c = a.step r c ≢ j

  module _ (n : ℕ) (all : n ≡ 2 ^ a.places) where
    reads : (k d : ℕ) → k < n → get_or (in_order n) k d ≡ nth_column a.places k
    reads k d low =
        let small : k % 256 ≡ k = mod-eq_of_lt (omega (arith, all, pow_mono few)) in
        grind (arith, get_or-map-range_with_len (λ k. nth_column a.places (k % 256)) 0 n k k d low (omega arith))

    -- of those before the k-th, none leads to j
    passed : (k : ℕ) → k ≤ n → AllWithin Other (in_order n) 0 k → (d : ℕ) → LeadsTo a j r d → column_place a.places d < k → ⊥
    passed k within none d leads low =
        none (column_place a.places d) 0 (omega arith) low
        (ap (a.step r) (reads (column_place a.places d) 0 (omega arith) ∙ nth_place a.places d leads.0) ∙ leads.1)

    many : length (in_order n) ≡ n
    many = length-map-range_with_len (λ k. nth_column a.places (k % 256)) 0 n

    pub first_column : (found : Option ℕ)
        → MatchOption found (AllWithin Other (in_order n) 0 (length (in_order n)))
        (λ c. (a.step r c ≡ j) × (i : ℕ) × (i < length (in_order n)) × HoldsAt (λ d. d ≡ c) (in_order n) i × AllWithin Other (in_order n) 0 i)
        → FirstColumn a j r found
    first_column None none = λ c leads.
        passed (length (in_order n)) (omega (arith, many)) none c leads (omega (arith, many, all, place_below a.places c leads.0))
    first_column (Some c) (leads, i, low, at, none) = ((subst (λ x. x < 2 ^ a.places) is (nth_below a.places i left), leads), later)
      where
        left : i < 2 ^ a.places
        left = omega (arith, low, many, all)

        is : nth_column a.places i ≡ c
        is = sym (reads i 0 (omega (arith, low, many))) ∙ at 0

        later : (d : ℕ) → LeadsTo a j r d → Before c d ⊎ (c ≡ d)
        later d there =
            let same : nth_column a.places (column_place a.places d) ≡ d = nth_place a.places d there.0 in
            elim (cases_order (column_place a.places d) i) [
              | inl e ↦ inr (sym is ∙ ap (nth_column a.places) (sym e) ∙ same)
              | inr (inl before) ↦ absurd (passed i (omega (arith, low, many)) none d there before)
              | inr (inr behind) ↦
                  let B : ℕ → Type 0 = λ x. Before x d in
                  inl (subst B is (subst (Before (nth_column a.places i)) same (nth_ordered a.places i (column_place a.places d) behind (place_below a.places d there.0))))
            ]

-- ---- the rows below a state

module _ (a : Automaton) (j : ℕ) where
  pub first_pair_found : (found : Option Link)
      → MatchOption found ((r : ℕ) → 0 ≤ r → r < j → FirstColumn a j r None)
      (λ link. (r : ℕ) × (0 ≤ r) × (r < j) × ((link.row ≡ r) × FirstColumn a j r (Some link.column)) × ((s : ℕ) → 0 ≤ s → s < r → FirstColumn a j s None))
      → FirstPair a j found
  first_pair_found None none = λ r c low leads. none r (omega arith) low c leads
  first_pair_found (Some link) (r, from, low, (at, first), none) =
      let P : ℕ → Type 0 = λ r. LeadsTo a j r link.column in (
        omega (arith, at, low),
        subst P (sym at) first.0,
        λ s c below leads. elim (cases_order s r) [
          | inl e ↦ let Q : ℕ → Type 0 = λ x. LeadsTo a j x c in grind (arith, at, first.1 c (subst Q e leads))
          | inr (inl l) ↦ absurd (none s (omega arith) l c leads)
          | inr (inr l) ↦ inl (inl (omega (arith, at, l)))
        ],
      )
