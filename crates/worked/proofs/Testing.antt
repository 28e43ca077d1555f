-- Tests of an automaton that is written out in rows, and what they say: which words tell its states apart, how they are reached, and
-- that no word with an answer is earlier than another.
use Rattle.std.specs.Prelude.{◌⊎◌, List, [], ◌∷◌, length}
use Rattle.std.proofs.Common.{◌≡◌, ℕ, zero, suc, ◌^◌, ◌<◌, Bool, true, false, not, ◌&&◌, ◌||◌, ltb, sym, refl, subst, inl, inr, arith}
use Rattle.std.proofs.lemmas.Bool.{and_parts, ltb-true, false≢true}
use Rattle.words.specs.Words.{Columns}
use Rattle.words.specs.Order.{NotLater, Precedes, Leads}
use Rattle.words.specs.Automata.{run}
use Rattle.words.specs.Rows.{written}
use Rattle.words.proofs.Deciding.{tests, tested}
use Rattle.words.proofs.Orders.{word_order}

-- a word of columns over n sets
abbrev pub in_columns : ℕ → List ℕ → Bool
in_columns n [] = true
in_columns n (c ∷ w) = ltb c (2 ^ n) && in_columns n w

pub columns_of : (n : ℕ) (w : List ℕ) → in_columns n w ≡ true → Columns n w
columns_of n [] e = tt
columns_of n (c ∷ w) e =
    let both = and_parts (ltb c (2 ^ n)) (in_columns n w) e in
    (ltb-true c (2 ^ n) both.0, columns_of n w both.1)

-- two answers are different
abbrev pub differ : Bool → Bool → Bool
differ true b = not b
differ false b = b

pub differ_says : (a b : Bool) → differ a b ≡ true → a ≡ b → ⊥
differ_says true true d e = absurd (false≢true d)
differ_says true false d e = false≢true (sym e)
differ_says false true d e = false≢true e
differ_says false false d e = absurd (false≢true d)

module _ (n k : ℕ) (rows : List ℕ) where
  abbrev pub step : ℕ → ℕ → ℕ
  step = (written n k rows).step

  -- whether a word is accepted from a state on
  abbrev pub from : ℕ → List ℕ → Bool
  from s w = (written n k rows).accepts (run step s w)

  -- one of the words is accepted from one state, and not from the other
  abbrev pub tells_apart : ℕ → ℕ → List (List ℕ) → Bool
  tells_apart i j [] = false
  tells_apart i j (v ∷ words) = (in_columns n v && differ (from i v) (from j v)) || tells_apart i j words

  pub told_apart : (i j : ℕ) (words : List (List ℕ)) → tells_apart i j words ≡ true → ((v : List ℕ) → Columns n v → from i v ≡ from j v) → ⊥
  told_apart i j [] e same = false≢true e
  told_apart i j (v ∷ words) e same =
      go (in_columns n v && differ (from i v) (from j v)) refl e (λ rest. told_apart i j words rest same)
    where
      go : (t : Bool) → (in_columns n v && differ (from i v) (from j v)) ≡ t → (t || tells_apart i j words) ≡ true
          → (tells_apart i j words ≡ true → ⊥) → ⊥
      go true here e others =
          let both = and_parts (in_columns n v) (differ (from i v) (from j v)) here in
          differ_says (from i v) (from j v) both.1 (same v (columns_of n v both.0))
      go false here e others = others e

  -- ---- no word has an answer

  -- none of so many columns, from a state on
  abbrev pub none : Bool → ℕ → ℕ → Bool
  none b zero s = differ ((written n k rows).accepts s) b
  none b (suc m) s = tests (2 ^ n) (λ c. none b m (step s c))

  pub none_says : (b : Bool) (s : ℕ) (v : List ℕ) → none b (length v) s ≡ true → Columns n v → from s v ≡ b → ⊥
  none_says b s [] e cs is = differ_says ((written n k rows).accepts s) b e is
  none_says b s (c ∷ v) e cs is =
      none_says b (step s c) v (tested (2 ^ n) (λ d. none b (length v) (step s d)) e c cs.0) cs.1 is

  -- none that is as long as w and earlier
  abbrev pub none_before : Bool → ℕ → List ℕ → Bool
  none_before b s [] = true
  none_before b s (c ∷ w) = tests c (λ d. none b (length w) (step s d)) && none_before b (step s c) w

  pub none_before_says : (b : Bool) (s : ℕ) (w v : List ℕ) → none_before b s w ≡ true → Columns n v → length v ≡ length w → Leads v w → from s v ≡ b → ⊥
  none_before_says b s [] [] e cs long leads is = leads
  none_before_says b s [] (d ∷ v) e cs long leads is = leads
  none_before_says b s (c ∷ w) [] e cs long leads is = leads
  none_before_says b s (c ∷ w) (d ∷ v) e cs long leads is =
      go leads (λ after then. none_before_says b (step s c) w v both.1 cs.1 same_long after then)
    where
      both : (tests c (λ x. none b (length w) (step s x)) ≡ true) × (none_before b (step s c) w ≡ true)
      both = and_parts (tests c (λ x. none b (length w) (step s x))) (none_before b (step s c) w) e

      same_long : length v ≡ length w
      same_long = omega (arith, long)

      go : (d < c) ⊎ ((d ≡ c) × Leads v w) → (Leads v w → from (step s c) v ≡ b → ⊥) → ⊥
      go (inl less) later =
          none_says b (step s d) v
          (subst (λ m. none b m (step s d) ≡ true) (sym same_long) (tested c (λ x. none b (length w) (step s x)) both.0 d less)) cs.1 is
      go (inr same) later = later same.1 (subst (λ x. from (step s x) v ≡ b) same.0 is)

  -- w has the answer, and no word before it has
  abbrev pub is_earliest : Bool → List ℕ → Bool
  is_earliest b w =
      (in_columns n w && not (differ (from 0 w) b)) && (tests (length w) (λ m. none b m 0) && none_before b 0 w)

  pub earliest_says : (b : Bool) (w : List ℕ) → is_earliest b w ≡ true
      → Columns n w × (from 0 w ≡ b) × ((v : List ℕ) → Columns n v → from 0 v ≡ b → NotLater w v)
  earliest_says b w e =
      let both = and_parts (in_columns n w && not (differ (from 0 w) b)) (tests (length w) (λ m. none b m 0) && none_before b 0 w) e in
      let here = and_parts (in_columns n w) (not (differ (from 0 w) b)) both.0 in
      let before = and_parts (tests (length w) (λ m. none b m 0)) (none_before b 0 w) both.1 in
      (columns_of n w here.0, alike (from 0 w) b here.1, λ v cs is. least before.0 before.1 v cs is (word_order.total w v))
    where
      alike : (x y : Bool) → not (differ x y) ≡ true → x ≡ y
      alike true true e = refl
      alike true false e = absurd (false≢true e)
      alike false true e = absurd (false≢true e)
      alike false false e = refl

      least : tests (length w) (λ m. none b m 0) ≡ true → none_before b 0 w ≡ true
          → (v : List ℕ) → Columns n v → from 0 v ≡ b → (w ≡ v) ⊎ (Precedes w v ⊎ Precedes v w) → NotLater w v
      least short equal v cs is (inl same) = inl same
      least short equal v cs is (inr (inl later)) = inr later
      least short equal v cs is (inr (inr (inl shorter))) =
          absurd (none_says b 0 v (tested (length w) (λ m. none b m 0) short (length v) shorter) cs is)
      least short equal v cs is (inr (inr (inr leads))) = absurd (none_before_says b 0 w v equal cs leads.0 leads.1 is)
