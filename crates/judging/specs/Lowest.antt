-- The lowest state with an answer, and its word in a buffer: contracts of the functions within judging. A reader of the statement
-- can pass over this file.
use Rattle.std.specs.Prelude.{◌≡◌, ℕ, ◌<◌, Bool, List, Some, None, Option, MatchOption, ◌≢◌}
use Rattle.words.specs.Automata.{Automaton}
use Rattle.words.specs.Described.{language_of}
use Rattle.words.specs.declared.rows.Rows.{Rows}
use Rattle.judging.specs.Earliest.{Written}
use Rattle.judging.specs.Judged.{Behind}
use Rattle.judging.specs.declared.verdict.Verdict.{Verdict}
use Rattle.judging.specs.declared.verdict.Verdict.TheVariants.{NoSets, SomeSets, AllSets}

-- the lowest state that accepts, or the lowest that does not
abbrev pub LowestState : Automaton → Bool → Option ℕ → Type 0
LowestState a b r =
    MatchOption r ((s : ℕ) → s < a.states → a.accepts s ≢ b) (λ j. (j < a.states) × (a.accepts j ≡ b) × ((s : ℕ) → s < j → a.accepts s ≢ b))

-- the earliest word to which the rows answer b
abbrev pub WrittenFor : Rows → Bool → List ℕ → List ℕ → Option ℕ → Type 0
WrittenFor rows b buffer buffer' told =
    Behind rows.states buffer buffer' × Written rows.places (λ w. language_of rows w ≡ b) buffer buffer' told

-- the verdict by which words there are
abbrev pub verdict_by : Option ℕ → Option ℕ → Verdict
verdict_by None v = NoSets
verdict_by (Some w) None = AllSets
verdict_by (Some w) (Some v) = SomeSets
