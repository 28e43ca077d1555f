-- What is said of a language over n sets when its table is judged.
use Rattle.std.specs.Prelude.{◌≡◌, ℕ, ◌<◌, ◌≤◌, Bool, true, false, ◌⊎◌, List, length, drop, is_some, Some, None, Option}
use Rattle.words.specs.Words.{Columns}
use Rattle.words.specs.Residuals.{SameResidual, Count}
use Rattle.words.specs.Described.{language_of}
use Rattle.words.specs.declared.rows.Rows.{Rows}
use Rattle.judging.specs.Earliest.{Written}
use Rattle.judging.specs.declared.verdict.Judgement.{Judgement}
use Rattle.judging.specs.declared.verdict.Verdict.{Verdict}
use Rattle.judging.specs.declared.verdict.Verdict.TheVariants.{NoSets, SomeSets, AllSets}

-- what a verdict says: no word of columns is in the language, there are one that is and one that is not, or all are
abbrev pub Says : ℕ → (List ℕ → Bool) → Verdict → Type 0
Says n L NoSets = (w : List ℕ) → Columns n w → L w ≡ false
Says n L SomeSets = ((w : List ℕ) × Columns n w × (L w ≡ true)) × ((w : List ℕ) × Columns n w × (L w ≡ false))
Says n L AllSets = (w : List ℕ) → Columns n w → L w ≡ true

-- a witness is absent exactly where no sets meet the claim, and a counterexample exactly where all do
abbrev pub Shown : Verdict → Option ℕ → Option ℕ → Type 0
Shown NoSets witness counterexample = (is_some witness ≡ false) × (is_some counterexample ≡ true)
Shown SomeSets witness counterexample = (is_some witness ≡ true) × (is_some counterexample ≡ true)
Shown AllSets witness counterexample = (is_some witness ≡ true) × (is_some counterexample ≡ false)

-- The judgement of the language L over n sets: what it says, how many residuals there are, and the earliest words. The two buffers,
-- before and after, are that of the word that meets the claim and that of the word that misses it.
pub record Judged (n : ℕ) (L : List ℕ → Bool) (met missed met' missed' : List ℕ) (j : Judgement) : Type 0 where
  pub verdict : Says n L j.verdict
  pub states : Count n (SameResidual n L) j.states
  pub witness : Written n (λ w. L w ≡ true) met met' j.witness
  pub counterexample : Written n (λ w. L w ≡ false) missed missed' j.counterexample
  pub shown : Shown j.verdict j.witness j.counterexample

-- the bytes from `states` on are as they were, and none came or went
abbrev pub Behind : ℕ → List ℕ → List ℕ → Type 0
Behind states buffer buffer' = (length buffer' ≡ length buffer) × (drop states buffer' ≡ drop states buffer)

-- The answer of `judge_table`. None, where a buffer has fewer bytes than there are states, and both are as they were. Else the
-- judgement of the words that the table accepts, and the bytes from as many as there are states on stay.
abbrev pub Judges : Rows → List ℕ → List ℕ → List ℕ → List ℕ → Option Judgement → Type 0
Judges rows met missed met' missed' None =
    ((length met < rows.states) ⊎ (length missed < rows.states)) × (met' ≡ met) × (missed' ≡ missed)
Judges rows met missed met' missed' (Some j) =
    (rows.states ≤ length met) × (rows.states ≤ length missed)
    × (j.states ≡ rows.states)
    × Behind rows.states met met' × Behind rows.states missed missed'
    × Judged rows.places (language_of rows) met missed met' missed' j
