-- Worked examples of claims with the standard book, and what the rules say of each.
use Rattle.std.specs.Prelude.{◌≡◌, ℕ, List, [], ◌∷◌, All, Some, None, Option, codes}
use Rattle.books.specs.Standard.{count, numbered, automaton, holds}
use Rattle.calls.specs.Lent.{lent_for}
use Rattle.calls.specs.Owed.{Terms}
use Rattle.judging.specs.declared.verdict.Verdict.{Verdict}
use Rattle.judging.specs.declared.verdict.Verdict.TheVariants.{NoSets, SomeSets, AllSets}
use Rattle.grammar.specs.Claims.{Claim}
use Rattle.grammar.specs.Planning.{ReadsAs, text_fault}
use Rattle.grammar.specs.Steps.{all_steps}
use Rattle.reading.specs.Building.{AllMade}
use Rattle.reading.specs.Judging.{JudgedClaim}

-- A text over so many sets, with its verdict, its number of states, and its earliest words: the one that satisfies it, and the one
-- that fails it.
pub record Row : Type 0 where
  pub text : List ℕ
  pub sets : ℕ
  pub verdict : Verdict
  pub states : ℕ
  pub witness : Option (List ℕ)
  pub counterexample : Option (List ℕ)

abbrev pub row : List ℕ → ℕ → Verdict → ℕ → Option (List ℕ) → Option (List ℕ) → Row
row text sets verdict states witness counterexample =
    record { text = text; sets = sets; verdict = verdict; states = states; witness = witness; counterexample = counterexample }

abbrev pub rows : List Row
rows =
    row (codes "sub A B") 2 SomeSets 2 (Some []) (Some (1 ∷ []))
    ∷ row (codes "one A") 1 SomeSets 3 (Some (1 ∷ [])) (Some [])
    ∷ row (codes "suc A B") 2 SomeSets 4 (Some (1 ∷ 2 ∷ [])) (Some [])
    ∷ row (codes "sum A B C") 3 SomeSets 3 (Some []) (Some (1 ∷ []))
    ∷ row (codes "?C sum A B C") 3 AllSets 1 (Some []) None
    ∷ row (codes "& one A one B") 2 SomeSets 5 (Some (3 ∷ [])) (Some [])
    ∷ row (codes "?X!p sub p X") 2 NoSets 1 None (Some [])
    ∷ row (codes "!p?X sub p X") 2 AllSets 1 (Some []) None
    ∷ []

-- a tray over n sets with a budget of 64 and a depth of 8, with the standard book, 64 records of each kind and 512 links
abbrev pub terms : ℕ → Terms
terms n = record { sets = n; budget = 64; depth = 8; lent = lent_for 64; size = count; automaton = automaton }

-- The text has no fault and reads as a claim; on an empty tray each building call of the claim passes its checks; and this is what is
-- judged of the claim.
pub record RowHolds (r : Row) : Type 0 where
  pub faultless : text_fault numbered automaton r.sets 3088 r.text ≡ None
  pub claim : Claim
  pub reads : ReadsAs numbered automaton r.sets r.text claim
  pub accepted : AllMade (terms r.sets) holds 0 [] (all_steps r.sets claim)
  pub judged : JudgedClaim r.sets holds claim r.verdict r.states r.witness r.counterexample

abbrev pub WorkedRows : Type 0
WorkedRows = All RowHolds rows
