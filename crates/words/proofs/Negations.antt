-- Rows with every mark turned over are the table of the words that the language lacks.
use Rattle.std.proofs.Common.{◌≡◌, ℕ, ◌^◌, ◌<◌, Bool, true, false, cond, not, eqb, List, [], ◌∷◌, ◌++◌, sym, refl, ap, ◌∙◌, subst}
use Rattle.words.specs.Rows.{next_of, mark_of}
use Rattle.words.specs.Residuals.{SameResidual}
use Rattle.words.specs.TableOf.{TableOf}

not_not : (b : Bool) → not (not b) ≡ b
not_not true = refl
not_not false = refl

turned_mark : (b : Bool) → ◌≡◌ {A = ℕ} (cond (eqb (cond b 1 0) 1) 0 1) (cond (not b) 1 0)
turned_mark true = refl
turned_mark false = refl

-- a language and its complement have the same residuals
pub residuals_not : (n : ℕ) (L : List ℕ → Bool) (u w : List ℕ) → SameResidual n L u w → SameResidual n (λ v. not (L v)) u w
residuals_not n L u w same v cs = ap not (same v cs)

pub not_residuals : (n : ℕ) (L : List ℕ → Bool) (u w : List ℕ) → SameResidual n (λ v. not (L v)) u w → SameResidual n L u w
not_residuals n L u w same v cs = sym (not_not (L (u ++ v))) ∙ ap not (same v cs) ∙ not_not (L (w ++ v))

module _ (n size : ℕ) (L : List ℕ → Bool) (rows rows' : List ℕ) (t : TableOf n L rows size)
    (nexts : (j c : ℕ) → j < size → c < 2 ^ n → next_of n rows' j c ≡ next_of n rows j c)
    (marks : (j : ℕ) → j < size → mark_of n rows' j ≡ cond (eqb (mark_of n rows j) 1) 0 1)
  where
    pub negated_table : TableOf n (λ w. not (L w)) rows' size
    negated_table = record {
      first = t.first;
      some = t.some;
      columns = t.columns;
      start = t.start;
      ordered = t.ordered;
      different = λ i j hi hj same. t.different i j hi hj (not_residuals n L (t.first i) (t.first j) same);
      every = λ w cs. let x = t.every w cs in (x.0, x.1, residuals_not n L w (t.first x.0) x.2, x.3);
      next = λ j c hj hc.
          let x = t.next j c hj hc in
          subst (λ s. (s < size) × SameResidual n (λ w. not (L w)) (t.first j ++ c ∷ []) (t.first s)) (sym (nexts j c hj hc))
          (x.0, residuals_not n L (t.first j ++ c ∷ []) (t.first (next_of n rows j c)) x.1);
      mark = λ j h. marks j h ∙ ap (λ m. cond (eqb m 1) 0 1) (t.mark j h) ∙ turned_mark (L (t.first j));
    }
