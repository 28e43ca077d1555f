-- A formula that a test of words tells is decided for every choice of sets.
use Rattle.std.proofs.Common.{ℕ, Bool, true, false, ◌⊎◌, List, Decides, inl, inr, refl, sym, ⊎_elim}
use Rattle.std.proofs.lemmas.Bool.{true≢false}
use Rattle.words.specs.Formulas.{Formula, Names, Satisfies, Tells}
use Rattle.words.specs.Words.{coded}
use Rattle.words.proofs.Coding.{every_choice}
use Rattle.words.proofs.Truths.{truth_local}
use Rattle.reading.specs.Formulas.{Decided}

cases_from_decides : (b : Bool) (P : Type 0) → Decides b P → P ⊎ (P → ⊥)
cases_from_decides true P d = inl (d.0 refl)
cases_from_decides false P d = inr (λ p. true≢false (sym (d.1 p)))

-- some word codes the choice, and the test answers of this word
pub tells_decided : (n : ℕ) (holds : ℕ → List ℕ → Type 0) (f : Formula) (L : List ℕ → Bool) → Names n f → Tells n holds f L → Decided holds f
tells_decided n holds f L names t x =
    let w = every_choice n x in
    ⊎_elim (λ yes. inl (truth_local n holds f names (λ j. coded j w.0) x w.2 yes))
    (λ no. inr (λ h. no (truth_local n holds f names x (λ j. coded j w.0) (λ j l. sym (w.2 j l)) h)))
    (cases_from_decides (L w.0) (Satisfies holds f w.0) (t w.0 w.1))
