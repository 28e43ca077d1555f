-- What is judged of a claim.
use Rattle.std.specs.Prelude.{◌≡◌, ℕ, false, ◌↔◌, List, [], ◌++◌, is_some, Some, None, Option}
use Rattle.words.specs.Residuals.{Count}
use Rattle.words.specs.Words.{Columns}
use Rattle.judging.specs.Earliest.{Earliest}
use Rattle.judging.specs.declared.verdict.Verdict.{Verdict}
use Rattle.judging.specs.declared.verdict.Verdict.TheVariants.{NoSets, AllSets}
use Rattle.grammar.specs.Claims.{Claim}
use Rattle.reading.specs.Meaning.{Meaning, Satisfied}

-- two words are completed by the same words to words that serve: they have the same residual
abbrev pub SameEnds : ℕ → (List ℕ → Type 0) → List ℕ → List ℕ → Type 0
SameEnds n Serves u w = (v : List ℕ) → Columns n v → Serves (u ++ v) ↔ Serves (w ++ v)

-- the earliest of the shortest words that serve, or that there is none
abbrev pub Shows : ℕ → (List ℕ → Type 0) → Option (List ℕ) → Type 0
Shows n Serves (Some w) = Earliest n Serves w
Shows n Serves None = (w : List ℕ) → Columns n w → Serves w → ⊥

-- A claim over n sets: none, exactly when it is true of nothing that the letters can stand for; all, exactly when all words satisfy
-- it; how many residuals it has; and the earliest words that satisfy it and that fail it.
pub record JudgedClaim (n : ℕ) (holds : ℕ → List ℕ → Type 0) (f : Claim) (verdict : Verdict) (states : ℕ) (witness counterexample : Option (List ℕ))
    : Type 0 where
  pub none : (verdict ≡ NoSets) ↔ ((v : ℕ → ℕ) → Meaning holds f v → ⊥)
  pub all : (verdict ≡ AllSets) ↔ ((w : List ℕ) → Columns n w → Satisfied holds f w)
  pub residuals : Count n (SameEnds n (Satisfied holds f)) states
  pub satisfies : Shows n (Satisfied holds f) witness
  pub fails : Shows n (λ w. Satisfied holds f w → ⊥) counterexample
  pub no_witness : (is_some witness ≡ false) ↔ (verdict ≡ NoSets)
  pub no_counterexample : (is_some counterexample ≡ false) ↔ (verdict ≡ AllSets)
