-- What the claims say of the sets that a word codes.
use Rattle.std.specs.Prelude.{◌≡◌, ℕ, List}
use Rattle.words.specs.Words.{coded}
use Rattle.words.specs.Relations.{Sum}
use Rattle.trial.specs.declared.claim.Claim.{Claim}
use Rattle.trial.specs.declared.claim.Claim.TheVariants.{Adds, HasSum, CountsOn, HasNext, Sticks}

abbrev pub SumOf : List ℕ → Type 0
SumOf w = Sum (coded 0 w) (coded 1 w) (coded 2 w)

abbrev pub Says : Claim → List ℕ → Type 0
Says Adds w = SumOf w
Says HasSum w = (s : ℕ) × Sum (coded 0 w) (coded 1 w) s
Says CountsOn w = coded 1 w ≡ 1 → SumOf w
Says HasNext w = (s : ℕ) × (coded 1 w ≡ 1 → Sum (coded 0 w) (coded 1 w) s)
Says Sticks w = (coded 1 w ≡ 1) × (coded 0 w ≡ coded 2 w) × SumOf w
