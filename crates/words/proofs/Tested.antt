-- Written rows are a table, by a test that computes: for each state its first word, and for two states a word that tells
-- them apart.
use Rattle.std.proofs.Common.{◌≡◌, ℕ, ◌^◌, ◌<◌, Bool, true, false, cond, not, ◌&&◌, ◌||◌, eqb, ltb, List, [], ◌∷◌, ◌++◌, length, get_or, sym, refl, ap, ◌∙◌, subst, subst₂, ap₂, inl, inr, lt_trans, arith}
use Rattle.std.proofs.lemmas.Bool.{ltb-true, eqb-true, and_parts, or_cases, cases_order, agree_below, agree_below_at, false≢true}
use Rattle.words.specs.Words.{Columns}
use Rattle.words.specs.Order.{Before, Leads, Precedes, NotLater, column_place}
use Rattle.words.specs.Automata.{Automaton, run}
use Rattle.words.specs.Rows.{written, next_of, mark_of}
use Rattle.words.specs.Residuals.{SameResidual}
use Rattle.words.specs.TableOf.{TableOf, answers}
use Rattle.words.proofs.Answering.{step_inside}
use Rattle.words.proofs.Coding.{columns_push, columns_front, columns_last}
use Rattle.words.proofs.FirstWords.{not_later_push, not_later_chain}
use Rattle.words.proofs.Orders.{nth_ordered, nth_place, place_below}
use Rattle.words.proofs.Runs.{snoc_ind, run_append, run_push}

-- ---- tests of words

abbrev pub all_below : (ℕ → Bool) → ℕ → Bool
all_below p k = agree_below p (λ j. true) k

abbrev pub are_columns : ℕ → List ℕ → Bool
are_columns n [] = true
are_columns n (c ∷ w) = ltb c (2 ^ n) && are_columns n w

abbrev pub same_word : List ℕ → List ℕ → Bool
same_word [] [] = true
same_word [] (d ∷ v) = false
same_word (c ∷ w) [] = false
same_word (c ∷ w) (d ∷ v) = eqb c d && same_word w v

abbrev pub leads : ℕ → List ℕ → List ℕ → Bool
leads n [] v = false
leads n (c ∷ w) [] = false
leads n (c ∷ w) (d ∷ v) = ltb (column_place n c) (column_place n d) || (eqb c d && leads n w v)

abbrev pub precedes : ℕ → List ℕ → List ℕ → Bool
precedes n w v = ltb (length w) (length v) || (eqb (length w) (length v) && leads n w v)

abbrev pub differ : Bool → Bool → Bool
differ true y = not y
differ false y = y

columns_tested : (n : ℕ) (w : List ℕ) → are_columns n w ≡ true → Columns n w
columns_tested n [] e = tt
columns_tested n (c ∷ w) e =
    let p = and_parts (ltb c (2 ^ n)) (are_columns n w) e in
    (ltb-true c (2 ^ n) p.0, columns_tested n w p.1)

same_tested : (w v : List ℕ) → same_word w v ≡ true → w ≡ v
same_tested [] [] e = refl
same_tested [] (d ∷ v) e = absurd (false≢true e)
same_tested (c ∷ w) [] e = absurd (false≢true e)
same_tested (c ∷ w) (d ∷ v) e =
    let p = and_parts (eqb c d) (same_word w v) e in
    ap₂ ◌∷◌ (eqb-true c d p.0) (same_tested w v p.1)

leads_tested : (n : ℕ) (w v : List ℕ) → Columns n w → Columns n v → leads n w v ≡ true → Leads w v
leads_tested n [] v cw cv e = absurd (false≢true e)
leads_tested n (c ∷ w) [] cw cv e = absurd (false≢true e)
leads_tested n (c ∷ w) (d ∷ v) cw cv e = elim (or_cases (ltb (column_place n c) (column_place n d)) (eqb c d && leads n w v) e) [
  | inl l ↦ inl (subst₂ Before (nth_place n c cw.0) (nth_place n d cv.0)
      (nth_ordered n (column_place n c) (column_place n d) (ltb-true (column_place n c) (column_place n d) l) (place_below n d cv.0)))
  | inr r ↦ let p = and_parts (eqb c d) (leads n w v) r in inr (eqb-true c d p.0, leads_tested n w v cw.1 cv.1 p.1)
]

precedes_tested : (n : ℕ) (w v : List ℕ) → Columns n w → Columns n v → precedes n w v ≡ true → Precedes w v
precedes_tested n w v cw cv e = elim (or_cases (ltb (length w) (length v)) (eqb (length w) (length v) && leads n w v) e) [
  | inl l ↦ inl (ltb-true (length w) (length v) l)
  | inr r ↦ let p = and_parts (eqb (length w) (length v)) (leads n w v) r in inr (eqb-true (length w) (length v) p.0, leads_tested n w v cw cv p.1)
]

not_same : (x y : Bool) → differ x y ≡ true → x ≡ y → ⊥
not_same true true e same = false≢true e
not_same true false e same = false≢true (sym same)
not_same false true e same = false≢true same
not_same false false e same = false≢true e

-- ---- the test of rows

module _ (n size : ℕ) (rows : List ℕ) (first : ℕ → List ℕ) (apart : ℕ → ℕ → List ℕ) where
  abbrev a : Automaton
  a = written n size rows

  -- where a column leads from state j
  abbrev pub edge : ℕ → ℕ → Bool
  edge j c =
      let to : ℕ = next_of n rows j c in
      ltb to size && (same_word (first to) (first j ++ c ∷ []) || precedes n (first to) (first j ++ c ∷ []))

  -- state i before state j
  abbrev pub pair : ℕ → ℕ → Bool
  pair j i =
      precedes n (first i) (first j)
      && (are_columns n (apart i j) && differ (a.accepts (run a.step i (apart i j))) (a.accepts (run a.step j (apart i j))))

  abbrev pub state : ℕ → Bool
  state j =
      are_columns n (first j)
      && (eqb (run a.step 0 (first j)) j && (eqb (mark_of n rows j) (cond (a.accepts j) 1 0) && (all_below (edge j) (2 ^ n) && all_below (pair j) j)))

  abbrev pub tested : Bool
  tested = ltb 0 size && (same_word (first 0) [] && all_below state size)

  module _ (passes : tested ≡ true) where
    some : 0 < size
    some = ltb-true 0 size (and_parts (ltb 0 size) (same_word (first 0) [] && all_below state size) passes).0

    rest : (same_word (first 0) [] ≡ true) × (all_below state size ≡ true)
    rest = and_parts (same_word (first 0) []) (all_below state size) (and_parts (ltb 0 size) (same_word (first 0) [] && all_below state size) passes).1

    start : first 0 ≡ []
    start = same_tested (first 0) [] rest.0

    -- what the test says of a state
    record State (j : ℕ) : Type 0 where
      columns : Columns n (first j)
      leads_to : run a.step 0 (first j) ≡ j
      mark : mark_of n rows j ≡ cond (a.accepts j) 1 0
      edges : all_below (edge j) (2 ^ n) ≡ true
      pairs : all_below (pair j) j ≡ true

    state_tested : (j : ℕ) → j < size → State j
    state_tested j h =
        let p = and_parts _ _ (agree_below_at state (λ i. true) size j rest.1 h) in
        let q = and_parts _ _ p.1 in
        let r = and_parts _ _ q.1 in
        let s = and_parts _ _ r.1 in
        record {
          columns = columns_tested n (first j) p.0;
          leads_to = eqb-true (run a.step 0 (first j)) j q.0;
          mark = eqb-true (mark_of n rows j) (cond (a.accepts j) 1 0) r.0;
          edges = s.0;
          pairs = s.1;
        }

    next_inside : (j c : ℕ) → j < size → c < 2 ^ n → next_of n rows j c < size
    next_inside j c hj hc =
        ltb-true (next_of n rows j c) size (and_parts _ _ (agree_below_at (edge j) (λ i. true) (2 ^ n) c (state_tested j hj).edges hc)).0

    next_early : (j c : ℕ) → j < size → c < 2 ^ n → NotLater (first (next_of n rows j c)) (first j ++ c ∷ [])
    next_early j c hj hc =
        let to : ℕ = next_of n rows j c in
        let w : List ℕ = first j ++ c ∷ [] in
        let e = (and_parts _ _ (agree_below_at (edge j) (λ i. true) (2 ^ n) c (state_tested j hj).edges hc)).1 in
        elim (or_cases (same_word (first to) w) (precedes n (first to) w) e) [
          | inl same ↦ inl (same_tested (first to) w same)
          | inr before ↦ inr (precedes_tested n (first to) w (state_tested to (next_inside j c hj hc)).columns (columns_push n (first j) c (state_tested j hj).columns hc) before)
        ]

    -- the state after a word has a first word that is not later
    After : List ℕ → Type 0
    After w = Columns n w → (run a.step 0 w < size) × NotLater (first (run a.step 0 w)) w

    after : (w : List ℕ) → After w
    unfolding After
    after = snoc_ind After (λ cs. (some, inl start)) (λ u c before cs.
        let here = before (columns_front n u c cs) in
        let hc : c < 2 ^ n = columns_last n u c cs in
        let j : ℕ = run a.step 0 u in
        let there : run a.step 0 (u ++ c ∷ []) ≡ next_of n rows j c = run_push a.step 0 u c ∙ step_inside n size rows j c here.0 hc in
        subst (λ x. (x < size) × NotLater (first x) (u ++ c ∷ [])) (sym there) (
          next_inside j c here.0 hc,
          not_later_chain (first (next_of n rows j c)) (first j ++ c ∷ []) (u ++ c ∷ []) (next_early j c here.0 hc) (not_later_push (first j) u c here.1),
        ))

    -- words to one state have the same residual
    residual : (u w : List ℕ) → run a.step 0 u ≡ run a.step 0 w → SameResidual n (answers n size rows) u w
    residual u w e v cs = ap a.accepts (run_append a.step 0 u v ∙ ap (λ s. run a.step s v) e ∙ sym (run_append a.step 0 w v))

    apart_at : (i j : ℕ) → i < j → j < size → SameResidual n (answers n size rows) (first i) (first j) → ⊥
    apart_at i j low hj same =
        let p = and_parts _ _ (agree_below_at (pair j) (λ k. true) j i (state_tested j hj).pairs low) in
        let v : List ℕ = apart i j in
        let q = and_parts (are_columns n v) (differ (a.accepts (run a.step i v)) (a.accepts (run a.step j v))) p.1 in
        let hi : i < size = lt_trans low hj in
        let from : (k : ℕ) → k < size → answers n size rows (first k ++ v) ≡ a.accepts (run a.step k v) =
        λ k hk. ap a.accepts (run_append a.step 0 (first k) v ∙ ap (λ s. run a.step s v) (state_tested k hk).leads_to) in
        not_same _ _ q.1 (sym (from i hi) ∙ same v (columns_tested n v q.0) ∙ from j hj)

    pub table_tested : TableOf n (answers n size rows) rows size
    unfolding After
    table_tested = record {
      first = first;
      some = some;
      columns = λ j h. (state_tested j h).columns;
      start = start;
      ordered = λ i j low h.
          precedes_tested n (first i) (first j) (state_tested i (omega arith)).columns (state_tested j h).columns
          (and_parts _ _ (agree_below_at (pair j) (λ k. true) j i (state_tested j h).pairs low)).0;
      different = λ i j hi hj same. elim (cases_order i j) [
        | inl e ↦ e
        | inr (inl l) ↦ absurd (apart_at i j l hj same)
        | inr (inr l) ↦ absurd (apart_at j i l hi (λ v cs. sym (same v cs)))
      ];
      every = λ w cs.
          let here = after w cs in
          (run a.step 0 w, here.0, residual w (first (run a.step 0 w)) (sym (state_tested (run a.step 0 w) here.0).leads_to), here.1);
      next = λ j c hj hc.
          let to : ℕ = next_of n rows j c in
          let inside : to < size = next_inside j c hj hc in (
            inside,
            residual (first j ++ c ∷ []) (first to)
                (run_push a.step 0 (first j) c ∙ ap (λ s. a.step s c) (state_tested j hj).leads_to ∙ step_inside n size rows j c hj hc ∙ sym (state_tested to inside).leads_to),
          );
      mark = λ j h.
          (state_tested j h).mark ∙ ap (λ s. cond (a.accepts s) 1 0) (sym (state_tested j h).leads_to);
    }

-- the same where the words are listed: the first word of each state, and for each state those that tell lower ones apart from it
pub table_listed : (n size : ℕ) (rows : List ℕ) (first : List (List ℕ)) (apart : List (List (List ℕ)))
    → tested n size rows (λ j. get_or first j []) (λ i j. get_or (get_or apart j []) i []) ≡ true → TableOf n (answers n size rows) rows size
table_listed n size rows first apart = table_tested n size rows (λ j. get_or first j []) (λ i j. get_or (get_or apart j []) i [])
