-- The state of a table after a word, and two tables side by side.
use Rattle.std.proofs.Common.{◌≡◌, ℕ, Bool, List, [], ◌∷◌, ◌++◌, sym, refl, ap, ◌∙◌, ap₂}
use Rattle.words.specs.Words.{Columns}
use Rattle.words.specs.Automata.{Automaton, run, reach, SameReach, accepted, language, side_by_side}
use Rattle.words.specs.Rows.{written}
use Rattle.words.specs.Residuals.{SameResidual, SamePair, Equality, Count, MoreThan}
use Rattle.words.specs.TableOf.{TableOf}
use Rattle.words.proofs.Answering.{state_after}
use Rattle.words.proofs.TableLaws.{residual_equality}

-- two words lead to the same state of a table exactly when they have the same residual
module _ (n : ℕ) (L : List ℕ → Bool) (rows : List ℕ) (size : ℕ) (t : TableOf n L rows size) where
  pub same_state : (u w : List ℕ) → Columns n u → Columns n w → SameResidual n L u w → run (written n size rows).step 0 u ≡ run (written n size rows).step 0 w
  same_state u w cu cw same =
      let a = state_after n L rows size t u cu in
      let b = state_after n L rows size t w cw in
      t.different (run (written n size rows).step 0 u) (run (written n size rows).step 0 w) a.0 b.0
      (λ v cs. sym (a.1 v cs) ∙ same v cs ∙ b.1 v cs)

  pub same_residual : (u w : List ℕ) → Columns n u → Columns n w → run (written n size rows).step 0 u ≡ run (written n size rows).step 0 w → SameResidual n L u w
  same_residual u w cu cw e v cs =
      let a = state_after n L rows size t u cu in
      let b = state_after n L rows size t w cw in
      a.1 v cs ∙ ap (λ j. L (t.first j ++ v)) e ∙ sym (b.1 v cs)

-- a count up to one sameness is a count up to another that agrees with it on words of columns
pub count_same : (n : ℕ) (Same Other : List ℕ → List ℕ → Type 0) (k : ℕ)
    → ((u w : List ℕ) → Columns n u → Columns n w → Same u w → Other u w) → ((u w : List ℕ) → Columns n u → Columns n w → Other u w → Same u w)
    → Count n Same k → Count n Other k
count_same n Same Other k to from c = record {
  word = c.word;
  columns = c.columns;
  different = λ i j hi hj e. c.different i j hi hj (from (c.word i) (c.word j) (c.columns i hi) (c.columns j hj) e);
  every = λ w cs. let x = c.every w cs in (x.0, x.1, to w (c.word x.0) cs (c.columns x.0 x.1) x.2);
}

pub more_same : (n : ℕ) (Same Other : List ℕ → List ℕ → Type 0) (k : ℕ)
    → ((u w : List ℕ) → Columns n u → Columns n w → Other u w → Same u w) → MoreThan n Same k → MoreThan n Other k
more_same n Same Other k from c = record {
  word = c.word;
  columns = c.columns;
  different = λ i j hi hj e. c.different i j hi hj (from (c.word i) (c.word j) (c.columns i hi) (c.columns j hj) e);
}

-- ---- pairs of states

pair_run : (a b : Automaton) (joins : Bool → Bool → Bool) (w : List ℕ) (s t : ℕ)
    → run (side_by_side a b joins).next (s, t) w ≡ (run a.step s w, run b.step t w)
pair_run a b joins [] s t = refl
pair_run a b joins (c ∷ w) s t = pair_run a b joins w (a.step s c) (b.step t c)

pub pair_reach : (a b : Automaton) (joins : Bool → Bool → Bool) (w : List ℕ) → reach (side_by_side a b joins) w ≡ (run a.step a.start w, run b.step b.start w)
pair_reach a b joins w = pair_run a b joins w a.start b.start

pub pair_language : (a b : Automaton) (joins : Bool → Bool → Bool) (w : List ℕ) → language (side_by_side a b joins) w ≡ joins (accepted a w) (accepted b w)
pair_language a b joins w = ap (side_by_side a b joins).final (pair_reach a b joins w)

-- two words lead two tables to the same pair of states exactly when they have the same pair of residuals
module _ (n : ℕ) (L M : List ℕ → Bool) (lower : List ℕ) (low : ℕ) (t : TableOf n L lower low) (upper : List ℕ) (up : ℕ) (s : TableOf n M upper up)
    (joins : Bool → Bool → Bool)
  where
    pub pairs_same : (u w : List ℕ) → Columns n u → Columns n w → SameReach (side_by_side (written n low lower) (written n up upper) joins) u w → SamePair n L M u w
    pairs_same u w cu cw e =
        let both = sym (pair_reach (written n low lower) (written n up upper) joins u) ∙ e ∙ pair_reach (written n low lower) (written n up upper) joins w in
        (same_residual n L lower low t u w cu cw (ap (λ x. x.0) both), same_residual n M upper up s u w cu cw (ap (λ x. x.1) both))

    pub same_pairs : (u w : List ℕ) → Columns n u → Columns n w → SamePair n L M u w → SameReach (side_by_side (written n low lower) (written n up upper) joins) u w
    same_pairs u w cu cw e =
        pair_reach (written n low lower) (written n up upper) joins u
        ∙ ap₂ (λ x y. (x, y)) (same_state n L lower low t u w cu cw e.0) (same_state n M upper up s u w cu cw e.1)
        ∙ sym (pair_reach (written n low lower) (written n up upper) joins w)

pub pair_equality : (n : ℕ) (L M : List ℕ → Bool) → Equality (SamePair n L M)
pair_equality n L M =
    let a = residual_equality n L in
    let b = residual_equality n M in
    record {
      itself = λ u. (a.itself u, b.itself u);
      back = λ u w e. (a.back u w e.0, b.back u w e.1);
      chain = λ u w v e f. (a.chain u w v e.0 f.0, b.chain u w v e.1 f.1);
    }
