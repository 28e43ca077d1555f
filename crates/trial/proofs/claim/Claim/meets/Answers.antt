use Rattle.std.proofs.Common.{ℕ, ◌+◌, sym, refl, subst, ⊎_elim, arith}
use Rattle.words.specs.Words.{coded}
use Rattle.words.specs.Relations.{Sum}
use Rattle.words.proofs.Reading.{sum_plain}
use Rattle.trial.specs.Claims.{Says}
use Rattle.trial.proofs.claim.Claim.meets.Goals as goal

-- any two numbers have a sum
sum_is : (a b : ℕ) → Sum a b (a + b)
sum_is a b = (sum_plain a b (a + b)).0 (omega arith)

pub returns-in-HasSum : goal.returns-in-HasSum
returns-in-HasSum c w found = (
  (λ _. ⊎_elim
      (λ is. subst (λ x. Says x w) (sym is) (coded 0 w + coded 1 w, sum_is (coded 0 w) (coded 1 w)))
      (λ is. subst (λ x. Says x w) (sym is) (coded 0 w + coded 1 w, (λ _. sum_is (coded 0 w) (coded 1 w))))
      c.in-HasSum.is),
  (λ _. refl),
)
