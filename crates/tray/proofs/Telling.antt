-- The laws of formulas.
use Rattle.std.proofs.Common.{◌≡◌, ℕ, Bool, true, List, sym, ◌∙◌, inl, inr, ⊎_elim}
use Rattle.std.proofs.lemmas.Bool.{true≢false}
use Rattle.words.specs.Words.{coded}
use Rattle.words.specs.Residuals.{BySets}
use Rattle.words.specs.Formulas.{Formula, Truth, Names, Tells}
use Rattle.words.proofs.Coding.{every_choice}
use Rattle.words.proofs.Truths.{truth_local, hides_truth, truth_hides}
use Rattle.judging.specs.declared.verdict.Verdict.{Verdict}
use Rattle.judging.specs.declared.verdict.Verdict.TheVariants.{NoSets, SomeSets, AllSets}
use Rattle.judging.specs.Judged.{Says}
use Rattle.tray.specs.FormulaLaws.{Meets, FormulaLaws}
use Rattle.tray.proofs.Builts.{by_sets_means}

module _ (holds : ℕ → List ℕ → Type 0) (n : ℕ) (f : Formula) (L : List ℕ → Bool) (names : Names n f) (t : Tells n holds f L) where
  tells_by_sets : BySets n L
  tells_by_sets = by_sets_means n L (λ w. Truth holds f (λ i. coded i w)) t (λ u w cu cw e. truth_local n holds f names (λ i. coded i u) (λ i. coded i w) e)

  -- a word for each choice of sets
  accepts_truth : (x : ℕ → ℕ) → Truth holds f x → L (every_choice n x).0 ≡ true
  accepts_truth x h =
      let u = every_choice n x in
      (t u.0 u.1).1 (truth_local n holds f names x (λ i. coded i u.0) (λ i l. sym (u.2 i l)) h)

  truth_accepts : (x : ℕ → ℕ) → L (every_choice n x).0 ≡ true → Truth holds f x
  truth_accepts x e =
      let u = every_choice n x in
      truth_local n holds f names (λ i. coded i u.0) x (λ i l. u.2 i l) ((t u.0 u.1).0 e)

  verdict_meets : (v : Verdict) → Says n L v → Meets holds f v
  verdict_meets NoSets none = λ x h. true≢false (sym (accepts_truth x h) ∙ none (every_choice n x).0 (every_choice n x).1)
  verdict_meets SomeSets some = (
    ((λ i. coded i some.0.0), (t some.0.0 some.0.1).0 some.0.2),
    ((λ i. coded i some.1.0), λ h. true≢false (sym ((t some.1.0 some.1.1).1 h) ∙ some.1.2)),
  )
  verdict_meets AllSets all = λ x. truth_accepts x (all (every_choice n x).0 (every_choice n x).1)

pub formula_laws : (holds : ℕ → List ℕ → Type 0) → FormulaLaws holds
formula_laws holds = record {
  placed_tells = λ n p listed M means. means;
  single_tells = λ n i M means. means;
  negation_tells = λ n f L M t means w cs. ((λ e h. (means w cs).0 e ((t w cs).1 h)), (λ no_truth. (means w cs).1 (λ e. no_truth ((t w cs).0 e))));
  both_tells = λ n f g L K M t s means w cs. (
    (λ e. let j = (means w cs).0 e in ((t w cs).0 j.0, (s w cs).0 j.1)),
    (λ h. (means w cs).1 ((t w cs).1 h.0, (s w cs).1 h.1)),
  );
  either_tells = λ n f g L K M t s means w cs. (
    (λ e. ⊎_elim (λ l. inl ((t w cs).0 l)) (λ k. inr ((s w cs).0 k)) ((means w cs).0 e)),
    (λ h. (means w cs).1 (⊎_elim (λ l. inl ((t w cs).1 l)) (λ k. inr ((s w cs).1 k)) h)),
  );
  hidden_tells = λ n i f L M names t means w cs. (
    (λ e. hides_truth n holds f i L names t w ((means w cs).0 e)),
    (λ h. (means w cs).1 (truth_hides n holds f i L names t w h)),
  );
  by_sets = tells_by_sets holds;
  meets = λ n f L v names t. verdict_meets holds n f L names t v;
}
