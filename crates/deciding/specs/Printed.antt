-- What is printed of an answer.
use Rattle.std.specs.Prelude.{◌≡◌, ℕ, ◌≤◌, List, [], ◌∷◌, ◌++◌, codes, decimal, take, length, Some, None, Option}
use Rattle.std.specs.List.{flat_map}
use Rattle.saving.specs.TableText.{line_of}
use Rattle.judging.specs.declared.verdict.Verdict.{Verdict}
use Rattle.judging.specs.declared.verdict.Verdict.TheVariants.{NoSets, SomeSets, AllSets}
use Rattle.deciding.specs.declared.answer.Answer.{Answer}
use Rattle.deciding.specs.declared.answer.Judged.{Judged as JudgedWords}
use Rattle.deciding.specs.declared.answer.Answer.TheVariants.{Refused, Judged}

abbrev pub verdict_name : Verdict → List ℕ
verdict_name NoSets = codes "none"
verdict_name SomeSets = codes "some"
verdict_name AllSets = codes "all"

-- columns in decimal, joined by commas; a point for the empty word, and a dash for an absent one
abbrev pub word_text : Option (List ℕ) → List ℕ
word_text None = codes "-"
word_text (Some []) = codes "."
word_text (Some (c ∷ w)) = decimal c ++ flat_map (λ d. codes "," ++ decimal d) w

-- the word of this length at the front of a buffer
abbrev pub word_at : List ℕ → Option ℕ → Option (List ℕ)
word_at buffer None = None
word_at buffer (Some k) = Some (take k buffer)

-- the values of a line, one space apart, under a line of their names
abbrev pub two_lines : List ℕ → List (List ℕ) → List ℕ
two_lines names values = names ++ 10 ∷ line_of values

abbrev pub judged_text : JudgedWords → List ℕ
judged_text j =
    two_lines (codes "verdict states witness counter")
    (verdict_name j.judgement.verdict ∷ decimal j.judgement.states ∷ word_text (word_at j.witness j.judgement.witness)
    ∷ word_text (word_at j.counterexample j.judgement.counterexample) ∷ [])

abbrev pub answer_text : Answer → List ℕ
answer_text (Refused number layer place) = two_lines (codes "refusal layer place") (decimal number ∷ decimal layer ∷ decimal place ∷ [])
answer_text (Judged j) = judged_text j

-- A piece of so many bytes at most was put behind what was written, as much of it as 4,153 bytes have room for.
pub record Puts (most : ℕ) (piece old new : List ℕ) : Type 0 where
  pub laid : new ≡ take 4153 (old ++ piece)
  pub short : length piece ≤ most
