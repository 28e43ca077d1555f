-- What a test of words says, where it tells a formula: residuals, counts, earliest words and verdicts are those of the formula.
use Rattle.std.proofs.Common.{◌≡◌, ℕ, ◌↔◌, Bool, true, false, not, List, ◌++◌, Some, None, Option, is_some, sym, refl, ap, ◌∙◌, arith}
use Rattle.std.proofs.lemmas.Bool.{true≢false}
use Rattle.std.proofs.lemmas.Bool.Decides.{same_from_decides}
use Rattle.words.specs.Words.{Columns}
use Rattle.words.specs.Formulas.{Formula, negation, Truth, Names, Satisfies, Tells}
use Rattle.words.specs.Hiding.{CollectsBy, SameBut}
use Rattle.words.specs.Residuals.{SameResidual, Count}
use Rattle.words.specs.Meanings.{SameAfter}
use Rattle.words.proofs.Coding.{columns_append}
use Rattle.words.proofs.Negations.{residuals_not, not_residuals}
use Rattle.words.proofs.Pairing.{count_same}
use Rattle.words.proofs.Truths.{tells_not}
use Rattle.judging.specs.Earliest.{Written}
use Rattle.judging.specs.Judged.{Shown, Judged}
use Rattle.judging.specs.declared.verdict.Judgement.{Judgement}
use Rattle.judging.specs.declared.verdict.Verdict.{Verdict}
use Rattle.judging.specs.declared.verdict.Verdict.TheVariants.{NoSets, SomeSets, AllSets}
use Rattle.tray.specs.FormulaLaws.{Meets}
use Rattle.tray.proofs.Telling.{formula_laws}
use Rattle.calls.specs.Buffers.{Buffers}
use Rattle.calls.specs.Owed.{JudgedFormula}

module _ (n : ℕ) (holds : ℕ → List ℕ → Type 0) (f : Formula) (L : List ℕ → Bool) (t : Tells n holds f L) where
  pub residual_after : (u w : List ℕ) → Columns n u → Columns n w → SameResidual n L u w → SameAfter n holds f u w
  residual_after u w cu cw same v cv =
      let a = t (u ++ v) (columns_append n u v cu cv) in
      let b = t (w ++ v) (columns_append n w v cw cv) in
      ((λ h. b.0 (sym (same v cv) ∙ a.1 h)), (λ h. a.0 (same v cv ∙ b.1 h)))

  pub after_residual : (u w : List ℕ) → Columns n u → Columns n w → SameAfter n holds f u w → SameResidual n L u w
  after_residual u w cu cw same v cv =
      let a = t (u ++ v) (columns_append n u v cu cv) in
      same_from_decides (L (u ++ v)) (L (w ++ v)) ((λ e. (same v cv).0 (a.0 e)), (λ h. a.1 ((same v cv).1 h))) (t (w ++ v) (columns_append n w v cw cv))

  pub count_after : (k : ℕ) → Count n (SameResidual n L) k → Count n (SameAfter n holds f) k
  count_after k = count_same n (SameResidual n L) (SameAfter n holds f) k residual_after after_residual

-- ---- the residuals of a negation are those of what is negated

module _ (n : ℕ) (holds : ℕ → List ℕ → Type 0) (f : Formula) (L : List ℕ → Bool) (t : Tells n holds f L) where
  pub residual_not_after : (u w : List ℕ) → Columns n u → Columns n w → SameResidual n L u w → SameAfter n holds (negation f) u w
  residual_not_after u w cu cw same =
      residual_after n holds (negation f) (λ v. not (L v)) (tells_not n holds f L t) u w cu cw (residuals_not n L u w same)

  pub not_after_residual : (u w : List ℕ) → Columns n u → Columns n w → SameAfter n holds (negation f) u w → SameResidual n L u w
  not_after_residual u w cu cw same =
      not_residuals n L u w (after_residual n holds (negation f) (λ v. not (L v)) (tells_not n holds f L t) u w cu cw same)

-- ---- collections up to one sameness are collections up to another that agrees with it on words of columns

collects_same : (n i : ℕ) (Same Other : List ℕ → List ℕ → Type 0) → ((u w : List ℕ) → Columns n u → Columns n w → Same u w → Other u w)
    → (u w : List ℕ) → CollectsBy n i Same u w → CollectsBy n i Other u w
collects_same n i Same Other to u w c x cx e = let y = c x cx e in (y.0, y.1, y.2, to x y.0 cx y.1 y.3)

pub but_same : (n i : ℕ) (Same Other : List ℕ → List ℕ → Type 0) → ((u w : List ℕ) → Columns n u → Columns n w → Same u w → Other u w)
    → (u w : List ℕ) → SameBut n i Same u w → SameBut n i Other u w
but_same n i Same Other to u w s = (collects_same n i Same Other to u w s.0, collects_same n i Same Other to w u s.1)

-- ---- the earliest word

written_same : (n : ℕ) (P Q : List ℕ → Type 0) → ((w : List ℕ) → Columns n w → P w → Q w) → ((w : List ℕ) → Columns n w → Q w → P w)
    → (old new : List ℕ) (k : Option ℕ) → Written n P old new k → Written n Q old new k
written_same n P Q to from old new (Some k) h =
    let e = h.2 in
    (h.0, h.1, record { columns = e.columns; serves = to _ e.columns e.serves; least = λ v cv q. e.least v cv (from v cv q) }, h.3)
written_same n P Q to from old new None h = ((λ w cw q. h.0 w cw (from w cw q)), h.1)

-- ---- verdicts

abbrev code : Verdict → ℕ
code NoSets = 0
code SomeSets = 1
code AllSets = 2

module _ (holds : ℕ → List ℕ → Type 0) (f : Formula) where
  exactly_none : (v : Verdict) → Meets holds f v → (v ≡ NoSets) ↔ ((x : ℕ → ℕ) → Truth holds f x → ⊥)
  exactly_none NoSets m = ((λ e. m), (λ h. refl))
  exactly_none SomeSets m = ((λ e. absurd (omega (arith, ap code e))), (λ h. absurd (h m.0.0 m.0.1)))
  exactly_none AllSets m = ((λ e. absurd (omega (arith, ap code e))), (λ h. absurd (h (λ i. 0) (m (λ i. 0)))))

  exactly_all : (v : Verdict) → Meets holds f v → (v ≡ AllSets) ↔ ((x : ℕ → ℕ) → Truth holds f x)
  exactly_all NoSets m = ((λ e. absurd (omega (arith, ap code e))), (λ h. absurd (m (λ i. 0) (h (λ i. 0)))))
  exactly_all SomeSets m = ((λ e. absurd (omega (arith, ap code e))), (λ h. absurd (m.1.1 (h m.1.0))))
  exactly_all AllSets m = ((λ e. m), (λ h. refl))

absent_witness : (v : Verdict) (w x : Option ℕ) → Shown v w x → (is_some w ≡ false) ↔ (v ≡ NoSets)
absent_witness NoSets w x s = ((λ e. refl), (λ e. s.0))
absent_witness SomeSets w x s = ((λ e. absurd (true≢false (sym s.0 ∙ e))), (λ e. absurd (omega (arith, ap code e))))
absent_witness AllSets w x s = ((λ e. absurd (true≢false (sym s.0 ∙ e))), (λ e. absurd (omega (arith, ap code e))))

absent_counterexample : (v : Verdict) (w x : Option ℕ) → Shown v w x → (is_some x ≡ false) ↔ (v ≡ AllSets)
absent_counterexample NoSets w x s = ((λ e. absurd (true≢false (sym s.1 ∙ e))), (λ e. absurd (omega (arith, ap code e))))
absent_counterexample SomeSets w x s = ((λ e. absurd (true≢false (sym s.1 ∙ e))), (λ e. absurd (omega (arith, ap code e))))
absent_counterexample AllSets w x s = ((λ e. refl), (λ e. s.1))

false_unless : (b : Bool) → (b ≡ true → ⊥) → b ≡ false
false_unless true other = absurd (other refl)
false_unless false other = refl

-- what is judged of the words is judged of the formula
module _ (n : ℕ) (holds : ℕ → List ℕ → Type 0) (f : Formula) (L : List ℕ → Bool) (names : Names n f) (t : Tells n holds f L) where
  pub judged_formula : (old new : Buffers) (j : Judgement) → Judged n L old.witness old.counterexample new.witness new.counterexample j
      → JudgedFormula n holds f old new j
  judged_formula old new j h =
      let met = (formula_laws holds).meets n f L j.verdict names t h.verdict in
      record {
        none = exactly_none holds f j.verdict met;
        all = exactly_all holds f j.verdict met;
        states = count_after n holds f L t j.states h.states;
        witness = written_same n (λ w. L w ≡ true) (Satisfies holds f) (λ w cw. (t w cw).0) (λ w cw. (t w cw).1) old.witness new.witness j.witness h.witness;
        counterexample = written_same n (λ w. L w ≡ false) (λ w. Satisfies holds f w → ⊥)
            (λ w cw e h. true≢false (sym ((t w cw).1 h) ∙ e)) (λ w cw fails. false_unless (L w) (λ e. fails ((t w cw).0 e)))
            old.counterexample new.counterexample j.counterexample h.counterexample;
        no_witness = absent_witness j.verdict j.witness j.counterexample h.shown;
        no_counterexample = absent_counterexample j.verdict j.witness j.counterexample h.shown;
      }
