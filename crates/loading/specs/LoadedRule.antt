-- A loaded book keeps the set rule: proofs, used where the book gives its rule. A reader of the statement can pass over this file.
use Rattle.std.specs.Prelude.{◌≡◌, ℕ, zero, suc, ◌+◌, ◌*◌, ◌/◌, ◌%◌, ◌^◌, ◌<◌, ◌≤◌, true, ◌&&◌, ◌↔◌, List, [], ◌∷◌, ◌==◌, slice_index_or}
use Rattle.std.proofs.Common.{sym, refl, ap, ◌∙◌, subst, pow-suc, pow_pos, get_or, arith}
use Rattle.std.proofs.lemmas.List.{ext_get_or}
use Rattle.std.proofs.lemmas.List.FromFn.{length-map-range_with_len, get_or-map-range_with_len}
use Rattle.std.proofs.lemmas.Bool.{lt-ltb}
use Rattle.words.specs.Sets.{bit}
use Rattle.words.specs.Words.{Columns, coded, sets}
use Rattle.words.specs.Automata.{run}
use Rattle.words.specs.Rows.{written, next_of, mark_of}
use Rattle.words.proofs.Answering.{step_inside}
use Rattle.words.proofs.Bits.{bit_small, bit_of_zero}
use Rattle.words.proofs.Deciding.{run_means}
use Rattle.books.specs.Rule.{Recognizes, Absent, SetRule}
use Rattle.books.specs.WrittenRule.{written_silent}
use Rattle.loading.specs.Loaded.{Accepts, size, automaton, holds}
use Rattle.loading.specs.declared.loaded.Loaded.{Loaded}

-- ---- words that code the same sets

-- sets are the same list exactly when each is the same
same_coded : (k : ℕ) (u w : List ℕ) → sets k u ≡ sets k w → (i : ℕ) → i < k → coded i u ≡ coded i w
same_coded k u w e i h =
    sym (get_or-map-range_with_len (λ j. coded j u) 0 k i i 0 h (omega arith))
    ∙ ap (λ x. get_or x i 0) e
    ∙ get_or-map-range_with_len (λ j. coded j w) 0 k i i 0 h (omega arith)

coded_same : (k : ℕ) (u w : List ℕ) → ((i : ℕ) → i < k → coded i u ≡ coded i w) → sets k u ≡ sets k w
coded_same k u w e =
    ext_get_or 0 (sets k u) (sets k w) (length-map-range_with_len (λ j. coded j u) 0 k ∙ sym (length-map-range_with_len (λ j. coded j w) 0 k))
    (λ i l.
    let h : i < k = subst (λ n. i < n) (length-map-range_with_len (λ j. coded j u) 0 k) l in
    get_or-map-range_with_len (λ j. coded j u) 0 k i i 0 h (omega arith) ∙ e i h ∙ sym (get_or-map-range_with_len (λ j. coded j w) 0 k i i 0 h (omega arith)))

-- columns below 2^k with the same bits below k are the same
pub same_column : (k c d : ℕ) → c < 2 ^ k → d < 2 ^ k → ((i : ℕ) → i < k → bit i c ≡ bit i d) → c ≡ d
same_column zero c d hc hd same = omega arith
same_column (suc k) c d hc hd same =
    let high : c / 2 ≡ d / 2 = same_column k (c / 2) (d / 2) (omega (arith, pow-suc 2 k)) (omega (arith, pow-suc 2 k)) (λ i h. same (suc i) (omega arith)) in
    let low : c % 2 ≡ d % 2 = same 0 (omega arith) in
    omega arith

-- the first columns of words that code the same, and their rests
first_same : (k c d : ℕ) (u w : List ℕ) → c < 2 ^ k → d < 2 ^ k → ((i : ℕ) → i < k → coded i (c ∷ u) ≡ coded i (d ∷ w)) → c ≡ d
first_same k c d u w hc hd e = same_column k c d hc hd (λ i h. let is = e i h in omega (arith, is, bit_small i c, bit_small i d))

rest_same : (i c d : ℕ) (u w : List ℕ) → coded i (c ∷ u) ≡ coded i (d ∷ w) → coded i u ≡ coded i w
rest_same i c d u w is = omega (arith, is, bit_small i c, bit_small i d)

-- ---- rows whose next states are rows, and which column 0 settles

module _ (k n : ℕ) (rows : List ℕ) (nexts : (s c : ℕ) → s < n → c < 2 ^ k → next_of k rows s c < n)
    (settled : (s : ℕ) → s < n → mark_of k rows (next_of k rows s 0) ≡ mark_of k rows s)
  where
    steps : (s c : ℕ) → s < n → c < 2 ^ k → (written k n rows).step s c < n
    steps s c hs hc = subst (λ x. x < n) (sym (step_inside k n rows s c hs hc)) (nexts s c hs hc)

    marked : (s : ℕ) → s < n → (written k n rows).accepts s ≡ (mark_of k rows s == 1)
    marked s h = ap (λ b. b && (mark_of k rows s == 1)) (lt-ltb s n h)

    -- column 0 leads to a state that accepts alike
    by_zero : (s : ℕ) → s < n → (written k n rows).accepts ((written k n rows).step s 0) ≡ (written k n rows).accepts s
    by_zero s h =
        let inside = step_inside k n rows s 0 h (pow_pos k) in
        ap (written k n rows).accepts inside
        ∙ marked (next_of k rows s 0) (nexts s 0 h (pow_pos k))
        ∙ ap (λ m. m == 1) (settled s h)
        ∙ sym (marked s h)

    -- so does a word that codes empty sets
    by_zeros : (u : List ℕ) (s : ℕ) → s < n → Columns k u → ((i : ℕ) → i < k → coded i u ≡ 0)
        → (written k n rows).accepts (run (written k n rows).step s u) ≡ (written k n rows).accepts s
    by_zeros [] s h cu none = refl
    by_zeros (c ∷ u) s h cu none =
        let zero_column : c ≡ 0 = same_column k c 0 cu.0 (pow_pos k) (λ i l. omega (arith, none i l, bit_small i c, bit_of_zero i)) in
        ap (λ d. (written k n rows).accepts (run (written k n rows).step ((written k n rows).step s d) u)) zero_column
        ∙ by_zeros u ((written k n rows).step s 0) (steps s 0 h (pow_pos k)) cu.1 (λ i l. omega (arith, none i l))
        ∙ by_zero s h

    -- what a state means: the sets of the words that lead from it to acceptance
    abbrev Meaning : ℕ → List ℕ → Type 0
    Meaning s x = (w : List ℕ) × Columns k w × (sets k w ≡ x) × ((written k n rows).accepts (run (written k n rows).step s w) ≡ true)

    ends : (s : ℕ) → s < n → ((written k n rows).accepts s ≡ true) ↔ Meaning s (sets k [])
    ends s h = (
      (λ e. ([], tt, refl, e)),
      (λ m. sym (by_zeros m.0 s h m.1 (λ i l. same_coded k m.0 [] m.2 i l)) ∙ m.3),
    )

    leads : (s c : ℕ) (w u : List ℕ) → s < n → c < 2 ^ k → Columns k u → sets k u ≡ sets k (c ∷ w)
        → (written k n rows).accepts (run (written k n rows).step s u) ≡ true → Meaning ((written k n rows).step s c) (sets k w)
    leads s c w [] hs hc cu same accepting =
        let none : (i : ℕ) → i < k → 0 ≡ bit i c + 2 * coded i w = same_coded k [] (c ∷ w) same in
        let is : c ≡ 0 = same_column k c 0 hc (pow_pos k) (λ i l. omega (arith, none i l, bit_of_zero i)) in (
          [],
          tt,
          coded_same k [] w (λ i l. omega (arith, none i l)),
          ap (λ d. (written k n rows).accepts ((written k n rows).step s d)) is ∙ by_zero s hs ∙ accepting,
        )
    leads s c w (d ∷ u) hs hc cu same accepting =
        let each = same_coded k (d ∷ u) (c ∷ w) same in
        let is : d ≡ c = first_same k d c u w cu.0 hc each in (
          u,
          cu.1,
          coded_same k u w (λ i l. rest_same i d c u w (each i l)),
          ap (λ x. (written k n rows).accepts (run (written k n rows).step ((written k n rows).step s x) u)) (sym is) ∙ accepting,
        )

    moves : (s c : ℕ) → s < n → c < 2 ^ k → (w : List ℕ) → Meaning s (sets k (c ∷ w)) ↔ Meaning ((written k n rows).step s c) (sets k w)
    moves s c hs hc w = (
      (λ m. leads s c w m.0 hs hc m.1 m.2 m.3),
      (λ m. (c ∷ m.0, (hc, m.1), coded_same k (c ∷ m.0) (c ∷ w) (λ i l. ap (λ x. bit i c + 2 * x) (same_coded k m.0 w m.2 i l)), m.3)),
    )

    saved_recognizes : (1 ≤ k) × (k ≤ 4) → (1 ≤ n) × (n ≤ 512) → Recognizes (written k n rows) (Accepts k n rows)
    saved_recognizes few_places few_states = record {
      places = few_places;
      states = few_states;
      start = few_states.0;
      step = steps;
      means = run_means k n (written k n rows).step (written k n rows).accepts Meaning steps ends moves 0 few_states.0;
    }

-- ---- the rule

module _ (b : Loaded) where
  recognizes : (p : ℕ) → p < size b → Recognizes (automaton b p) (holds b p)
  recognizes zero h =
      let some : 1 ≤ b.states = omega arith in
      saved_recognizes b.places b.states b.cells b.nexts b.settled (b.some_places some, b.few_places) (some, b.few_states)
  recognizes (suc p) h = absurd (omega arith)

  absent : (p : ℕ) → size b ≤ p → Absent (automaton b p)
  absent zero h =
      let none : b.states ≡ 0 = omega arith in
      record { places = b.blank none; states = none; start = refl }
  absent (suc p) h = record { places = refl; states = refl; start = refl }

  pub loaded_rule : SetRule (size b) (automaton b) (holds b)
  loaded_rule = record {
    few = omega arith;
    recognizes = recognizes;
    absent = absent;
    silent = λ p. written_silent (automaton b p).places (automaton b p).states (slice_index_or (b.cells ∷ []) p []);
  }
