-- What is judged of a claim: by an automaton that is written out in rows, or outright where nothing satisfies it or everything does.
use Rattle.std.proofs.Common.{◌≡◌, ℕ, ◌<◌, Bool, true, false, ◌&&◌, ◌||◌, eqb, ◌↔◌, List, [], ◌∷◌, ◌++◌, sym, refl, ap, ◌∙◌, ⊎_elim, inl, inr, arith}
use Rattle.std.specs.Prelude.{Some, None, slice_index_or}
use Rattle.std.proofs.lemmas.Bool.{and_parts, eqb-true, cases_Bool, false≢true, false_from_ne_true}
use Rattle.words.specs.Words.{Columns, sets}
use Rattle.words.specs.Order.{NotLater}
use Rattle.words.specs.Automata.{run}
use Rattle.words.specs.Residuals.{Count}
use Rattle.words.specs.Rows.{written}
use Rattle.words.proofs.Coding.{columns_append}
use Rattle.words.proofs.Deciding.{tests, tested}
use Rattle.words.proofs.Runs.{run_append}
use Rattle.books.specs.Rule.{Recognizes}
use Rattle.judging.specs.Earliest.{Earliest}
use Rattle.judging.specs.declared.verdict.Verdict.{Verdict}
use Rattle.judging.specs.declared.verdict.Verdict.TheVariants.{NoSets, SomeSets, AllSets}
use Rattle.grammar.specs.Claims.{Claim}
use Rattle.reading.specs.Judging.{SameEnds, JudgedClaim}
use Rattle.reading.specs.Meaning.{Meaning, Satisfied}
use Rattle.worked.proofs.Testing.{in_columns, columns_of, step, from, tells_apart, told_apart, is_earliest, earliest_says}

-- ---- verdicts are different, and two statements are as true as each other

abbrev is_no : Verdict → Bool
is_no NoSets = true
is_no SomeSets = false
is_no AllSets = false

abbrev is_all : Verdict → Bool
is_all NoSets = false
is_all SomeSets = false
is_all AllSets = true

-- both sides are impossible
neither : {A B : Type 0} → (A → ⊥) → (B → ⊥) → A ↔ B
neither no_a no_b = ((λ a. absurd (no_a a)), (λ b. absurd (no_b b)))

-- both sides hold
each_holds : {A B : Type 0} → A → B → A ↔ B
each_holds a b = ((λ _. b), (λ _. a))

true_or_false : true ≡ false → ⊥
true_or_false e = false≢true (sym e)

one_answer : (a b : Bool) → (a ≡ true → b ≡ true) → (b ≡ true → a ≡ true) → a ≡ b
one_answer true b forth back = sym (forth refl)
one_answer false b forth back = sym (false_from_ne_true b (λ e. false≢true (back e)))

-- nothing is earlier than the word without columns
nothing_first : (v : List ℕ) → NotLater [] v
nothing_first [] = inl refl
nothing_first (c ∷ v) = inr (inl (omega arith))

-- ---- by an automaton

-- The automaton recognizes R, which says which words serve.
module _ (n k : ℕ) (rows : List ℕ) (Serves R : List ℕ → Type 0) (recognizes : Recognizes (written n k rows) R)
    (serves : (w : List ℕ) → Serves w ↔ R (sets n w)) where
  tells : (w : List ℕ) → Columns n w → (from n k rows 0 w ≡ true) ↔ Serves w
  tells w cs = ((λ e. (serves w).1 ((recognizes.means w cs).0 e)), (λ s. (recognizes.means w cs).1 ((serves w).0 s)))

  fails : (w : List ℕ) → Columns n w → (from n k rows 0 w ≡ false) ↔ (Serves w → ⊥)
  fails w cs = (
    (λ e s. false≢true (sym e ∙ (tells w cs).1 s)),
    (λ none. false_from_ne_true (from n k rows 0 w) (λ e. none ((tells w cs).0 e))),
  )

  stays : (w : List ℕ) (s : ℕ) → s < k → Columns n w → run (step n k rows) s w < k
  stays [] s h cs = h
  stays (c ∷ w) s h cs = stays w (step n k rows s c) (recognizes.step s c h cs.0) cs.1

  -- words that lead to the states, in their order; and words among which each two states have one that tells them apart
  module _ (words telling : List (List ℕ)) where
    abbrev word : ℕ → List ℕ
    word j = slice_index_or words j []

    abbrev pub reached : Bool
    reached = tests k (λ j. in_columns n (word j) && eqb (run (step n k rows) 0 (word j)) j)

    abbrev pub different : Bool
    different = tests k (λ i. tests k (λ j. eqb i j || tells_apart n k rows i j telling))

    module _ (reach : reached ≡ true) (differ : different ≡ true) where
      word_reaches : (j : ℕ) → j < k → Columns n (word j) × (run (step n k rows) 0 (word j) ≡ j)
      word_reaches j h =
          let both = and_parts (in_columns n (word j)) (eqb (run (step n k rows) 0 (word j)) j)
          (tested k (λ i. in_columns n (word i) && eqb (run (step n k rows) 0 (word i)) i) reach j h) in
          (columns_of n (word j) both.0, eqb-true (run (step n k rows) 0 (word j)) j both.1)

      -- a word is completed as its state is left
      goes_on : (w : List ℕ) (s : ℕ) → run (step n k rows) 0 w ≡ s → (v : List ℕ) → from n k rows 0 (w ++ v) ≡ from n k rows s v
      goes_on w s is v =
          ap (written n k rows).accepts (run_append (step n k rows) 0 w v) ∙ ap (λ t. from n k rows t v) is

      one_state : (i j : ℕ) → i < k → j < k → SameEnds n Serves (word i) (word j) → i ≡ j
      one_state i j hi hj same =
          ⊎_elim (λ e. eqb-true i j e)
          (λ other. absurd (told_apart n k rows i j telling (told other) alike))
          (cases_Bool (eqb i j))
        where
          told : eqb i j ≡ false → tells_apart n k rows i j telling ≡ true
          told other =
              ap (λ t. t || tells_apart n k rows i j telling) (sym other)
              ∙ tested k (λ y. eqb i y || tells_apart n k rows i y telling)
              (tested k (λ x. tests k (λ y. eqb x y || tells_apart n k rows x y telling)) differ i hi) j hj

          alike : (v : List ℕ) → Columns n v → from n k rows i v ≡ from n k rows j v
          alike v cs =
              let a = word_reaches i hi in
              let b = word_reaches j hj in
              let one = tells (word i ++ v) (columns_append n (word i) v a.0 cs) in
              let two = tells (word j ++ v) (columns_append n (word j) v b.0 cs) in
              sym (goes_on (word i) i a.1 v)
              ∙ one_answer (from n k rows 0 (word i ++ v)) (from n k rows 0 (word j ++ v))
              (λ e. two.1 ((same v cs).0 (one.0 e))) (λ e. one.1 ((same v cs).1 (two.0 e)))
              ∙ goes_on (word j) j b.1 v

      pub residuals : Count n (SameEnds n Serves) k
      residuals = record {
        word = word;
        columns = λ j h. (word_reaches j h).0;
        different = one_state;
        every = λ w cs.
            let j : ℕ = run (step n k rows) 0 w in
            let within : j < k = stays w 0 recognizes.start cs in
            let there = word_reaches j within in (
              j,
              within,
              λ v vs.
                  let one = tells (w ++ v) (columns_append n w v cs vs) in
                  let two = tells (word j ++ v) (columns_append n (word j) v there.0 vs) in
                  let same : from n k rows 0 (w ++ v) ≡ from n k rows 0 (word j ++ v) = goes_on w j refl v ∙ sym (goes_on (word j) j there.1 v) in (
                    (λ s. two.0 (sym same ∙ one.1 s)),
                    (λ s. one.0 (same ∙ two.1 s)),
                  ),
            );
      }

  -- ---- the earliest words

  pub earliest_serving : (w : List ℕ) → is_earliest n k rows true w ≡ true → Earliest n Serves w
  earliest_serving w e =
      let says = earliest_says n k rows true w e in
      record { columns = says.0; serves = (tells w says.0).0 says.1; least = λ v cs s. says.2 v cs ((tells v cs).1 s) }

  pub earliest_failing : (w : List ℕ) → is_earliest n k rows false w ≡ true → Earliest n (λ v. Serves v → ⊥) w
  earliest_failing w e =
      let says = earliest_says n k rows false w e in
      record { columns = says.0; serves = (fails w says.0).0 says.1; least = λ v cs s. says.2 v cs ((fails v cs).1 s) }

-- A claim that some sets satisfy and some do not. The words lead to the states in their order, those after them tell the states apart,
-- and the last two are the earliest that satisfies the claim and the earliest that fails it. All four are tests that compute.
pub some_judged : (n k : ℕ) (rows : List ℕ) (holds : ℕ → List ℕ → Type 0) (f : Claim) (R : List ℕ → Type 0) (recognizes : Recognizes (written n k rows) R)
    (serves : (w : List ℕ) → Satisfied holds f w ↔ R (sets n w)) (words telling : List (List ℕ)) (w v : List ℕ)
    → reached n k rows (Satisfied holds f) R recognizes serves words telling ≡ true
    → different n k rows (Satisfied holds f) R recognizes serves words telling ≡ true
    → is_earliest n k rows true w ≡ true → is_earliest n k rows false v ≡ true
    → JudgedClaim n holds f SomeSets k (Some w) (Some v)
some_judged n k rows holds f R recognizes serves words telling w v reach differ first last =
    let good = earliest_serving n k rows (Satisfied holds f) R recognizes serves w first in
    let bad = earliest_failing n k rows (Satisfied holds f) R recognizes serves v last in
    record {
      none = neither (λ e. false≢true (ap is_no e)) (λ none. none good.serves.0 good.serves.2);
      all = neither (λ e. false≢true (ap is_all e)) (λ all. bad.serves (all v bad.columns));
      residuals = residuals n k rows (Satisfied holds f) R recognizes serves words telling reach differ;
      satisfies = good;
      fails = bad;
      no_witness = neither true_or_false (λ e. false≢true (ap is_no e));
      no_counterexample = neither true_or_false (λ e. false≢true (ap is_all e));
    }

-- ---- outright

-- where words serve all or none, they have one residual
one_residual : (n : ℕ) (Serves : List ℕ → Type 0) → ((u w : List ℕ) → Serves u ↔ Serves w) → Count n (SameEnds n Serves) 1
one_residual n Serves same = record {
  word = λ j. [];
  columns = λ j h. tt;
  different = λ i j hi hj _. omega arith;
  every = λ w cs. (0, omega arith, λ v vs. same (w ++ v) v);
}

-- a claim that every word satisfies
pub all_judged : (n : ℕ) (holds : ℕ → List ℕ → Type 0) (f : Claim) → ((w : List ℕ) → Satisfied holds f w)
    → JudgedClaim n holds f AllSets 1 (Some []) None
all_judged n holds f all = record {
  none = neither (λ e. false≢true (ap is_no e)) (λ none. none (all []).0 (all []).2);
  all = each_holds refl (λ w cs. all w);
  residuals = one_residual n (Satisfied holds f) (λ u w. each_holds (all u) (all w));
  satisfies = record { columns = tt; serves = all []; least = λ v cs s. nothing_first v };
  fails = λ w cs not. not (all w);
  no_witness = neither true_or_false (λ e. false≢true (ap is_no e));
  no_counterexample = each_holds refl refl;
}

-- a claim that is false whatever its letters stand for
pub none_judged : (n : ℕ) (holds : ℕ → List ℕ → Type 0) (f : Claim) → ((v : ℕ → ℕ) → Meaning holds f v → ⊥)
    → JudgedClaim n holds f NoSets 1 None (Some [])
none_judged n holds f none = record {
  none = each_holds refl none;
  all = neither (λ e. false≢true (ap is_all e)) (λ all. fails [] (all [] tt));
  residuals = one_residual n (Satisfied holds f) (λ u w. neither (fails u) (fails w));
  satisfies = λ w cs s. fails w s;
  fails = record { columns = tt; serves = fails []; least = λ v cs s. nothing_first v };
  no_witness = each_holds refl refl;
  no_counterexample = neither true_or_false (λ e. false≢true (ap is_all e));
}
  where
    fails : (w : List ℕ) → Satisfied holds f w → ⊥
    fails w s = none s.0 s.2
