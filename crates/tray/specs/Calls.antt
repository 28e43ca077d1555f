-- The checks of each call, in their order, over n sets with a budget and a depth, where the tray holds `count` tables.
use Rattle.std.specs.Prelude.{◌≡◌, ℕ, ◌+◌, ◌-◌, ◌*◌, ◌<◌, ◌≤◌, true, ◌⊎◌, List, [], ◌∷◌, ◌++◌, map, length, Ok, Err, Result, ◌≢◌, slice_index}
use Rattle.words.specs.Words.{coded}
use Rattle.words.specs.Automata.{Automaton}
use Rattle.words.specs.Relations.{Singleton}
use Rattle.words.specs.Residuals.{SameResidual, SamePair, MoreThan}
use Rattle.words.specs.Hiding.{Hides, SameCollection}
use Rattle.tables.specs.declared.pairs.Join.{Join}
use Rattle.judging.specs.Judged.{Judged}
use Rattle.judging.specs.declared.verdict.Judgement.{Judgement}
use Rattle.saving.specs.Saved.{IsWritten}
use Rattle.saving.specs.TableText.{table_text}
use Rattle.tray.specs.declared.control.Control.{Control}
use Rattle.tray.specs.declared.refusal.Refusal.{Refusal}
use Rattle.tray.specs.Asked.{SameBookState}
use Rattle.tray.specs.Joined.{Joins}
use Rattle.tray.specs.Refusals.{number_of}
use Rattle.tray.specs.Checks.{FirstFailed, AllPass}
use Rattle.tray.specs.View.{size_of, rows_of, says}
use Rattle.tray.specs.Building.{SameSettings, SameTables, Builds}

-- too few records or links are lent for an exploration
abbrev pub lent : ℕ → ℕ → ℕ → ℕ × Type 0
lent budget records links = (4, (records < budget) ⊎ (links < 8 * budget))

-- set i is not there; a listed set is not there
abbrev pub no_set : ℕ → ℕ → ℕ × Type 0
no_set n i = (7, n ≤ i)

abbrev pub no_listed_set : ℕ → List ℕ → ℕ × Type 0
no_listed_set n listed = (7, (j : ℕ) × (j < length listed) × (n ≤ slice_index listed j))

abbrev pub full : ℕ → ℕ → ℕ × Type 0
full depth count = (21, depth ≤ count)

abbrev pub fewer_than : ℕ → ℕ → ℕ × Type 0
fewer_than needed count = (22, count < needed)

-- met is more than the budget
abbrev pub too_many : ℕ → (List ℕ → List ℕ → Type 0) → ℕ → List (ℕ × Type 0)
too_many n Same budget = (23, MoreThan n Same budget) ∷ []

-- place: predicate p of a book that has `size` of them, with so many places, on the listed sets
abbrev pub place_checks : ℕ → ℕ → ℕ → ℕ → ℕ → ℕ → ℕ → ℕ → ℕ → List ℕ → List (ℕ × Type 0)
place_checks n budget depth count records links size places p listed =
    lent budget records links ∷ (5, size ≤ p) ∷ (6, length listed ≡ places → ⊥) ∷ no_listed_set n listed ∷ full depth count ∷ []

-- single: three states are met
abbrev pub single_checks : ℕ → ℕ → ℕ → ℕ → ℕ → List (ℕ × Type 0)
single_checks n budget depth count i = no_set n i ∷ full depth count ∷ (23, budget < 3) ∷ []

abbrev pub join_checks : ℕ → ℕ → ℕ → ℕ → List (ℕ × Type 0)
join_checks budget count records links = lent budget records links ∷ fewer_than 2 count ∷ []

abbrev pub hide_checks : ℕ → ℕ → ℕ → ℕ → ℕ → ℕ → List (ℕ × Type 0)
hide_checks n budget count records links i = lent budget records links ∷ no_set n i ∷ fewer_than 1 count ∷ []

-- negate and drop
abbrev pub top_checks : ℕ → List (ℕ × Type 0)
top_checks count = fewer_than 1 count ∷ []

-- judge: two output buffers of so many bytes
abbrev pub judge_checks : ℕ → ℕ → ℕ → ℕ → List (ℕ × Type 0)
judge_checks budget count witness counterexample = (8, (witness < budget) ⊎ (counterexample < budget)) ∷ fewer_than 1 count ∷ []

-- save: an output buffer of so many bytes for a text of so many
abbrev pub save_checks : ℕ → ℕ → ℕ → ℕ → List (ℕ × Type 0)
save_checks n count buffer text = (20, 4 < n) ∷ fewer_than 1 count ∷ (8, buffer < text) ∷ []

-- ---- what each call answers

-- Place: predicate p, with automaton a, means `holds`. Met counts the book states that words lead to, read through the
-- listed sets; the new top accepts a word exactly when the relation holds of the listed sets, in order.
abbrev pub Places : ℕ → ℕ → ℕ → ℕ → Automaton → (List ℕ → Type 0) → List ℕ → Control → List ℕ → Control → List ℕ → Result (ℕ × ℕ) Refusal → Type 0
Places records links size p a holds listed c tables c' tables' r =
    Builds
    (place_checks c.sets c.budget c.depth c.count records links size a.places p listed ++ too_many c.sets (SameBookState a listed) c.budget)
    c.count (SameBookState a listed) (λ w. holds (map (λ i. coded i w) listed)) c tables c' tables' r

-- Both, either: the two upper tables become one. Met counts their pairs of residuals.
abbrev pub JoinsTables : Join → ℕ → ℕ → Control → List ℕ → Control → List ℕ → Result (ℕ × ℕ) Refusal → Type 0
JoinsTables join records links c tables c' tables' r =
    Builds
    (join_checks c.budget c.count records links ++ too_many c.sets (SamePair c.sets (says c tables (c.count - 2)) (says c tables (c.count - 1))) c.budget)
    (c.count - 2) (SamePair c.sets (says c tables (c.count - 2)) (says c tables (c.count - 1)))
    (Joins join (says c tables (c.count - 2)) (says c tables (c.count - 1))) c tables c' tables' r

-- Negate: the top becomes its negation, and keeps as many states.
abbrev pub Negates : Control → List ℕ → Control → List ℕ → Result (ℕ × ℕ) Refusal → Type 0
Negates c tables c' tables' r =
    Builds (top_checks c.count) (c.count - 1) (SameResidual c.sets (says c tables (c.count - 1))) (λ w. says c tables (c.count - 1) w ≢ true)
    c tables c' tables' r

-- Drop: the top is removed.
abbrev pub Drops : Control → List ℕ → Control → List ℕ → Result (Unit {0}) Refusal → Type 0
Drops c tables c' tables' (Ok _) =
    AllPass (top_checks c.count) × SameSettings c c' × (c'.count + 1 ≡ c.count) × SameTables c'.count c tables c' tables' × (tables' ≡ tables)
Drops c tables c' tables' (Err r) = FirstFailed (top_checks c.count) (number_of r) × (c' ≡ c) × (tables' ≡ tables)

-- Single: set i has exactly one member. Three states are met, and kept.
abbrev pub Singles : ℕ → Control → List ℕ → Control → List ℕ → Result (ℕ × ℕ) Refusal → Type 0
Singles i c tables c' tables' (Ok counts) =
    (counts.0 ≡ 3) × (counts.1 ≡ 3)
    × Builds (single_checks c.sets c.budget c.depth c.count i) c.count (SameResidual c.sets (says c' tables' c.count)) (λ w. Singleton (coded i w))
    c tables c' tables' (Ok counts)
Singles i c tables c' tables' (Err r) = FirstFailed (single_checks c.sets c.budget c.depth c.count i) (number_of r) × (c' ≡ c) × (tables' ≡ tables)

-- Judge: the verdict on the top, how many states it has, and the two words in their buffers, `met` and `missed`.
abbrev pub JudgesTop : Control → List ℕ → List ℕ → List ℕ → List ℕ → List ℕ → Result Judgement Refusal → Type 0
JudgesTop c tables met missed met' missed' (Ok j) =
    AllPass (judge_checks c.budget c.count (length met) (length missed)) × Judged c.sets (says c tables (c.count - 1)) met missed met' missed' j
JudgesTop c tables met missed met' missed' (Err r) =
    FirstFailed (judge_checks c.budget c.count (length met) (length missed)) (number_of r) × (met' ≡ met) × (missed' ≡ missed)

-- Save: the text of the top table stands at the front of the buffer, and the bytes behind it are as they were.
abbrev pub top_text : Control → List ℕ → List ℕ
top_text c tables = table_text c.sets (size_of c (c.count - 1)) (rows_of c tables (c.count - 1))

abbrev pub SavesTop : Control → List ℕ → List ℕ → List ℕ → Result ℕ Refusal → Type 0
SavesTop c tables buffer buffer' (Ok k) =
    AllPass (save_checks c.sets c.count (length buffer) (length (top_text c tables))) × IsWritten (top_text c tables) buffer buffer' k
SavesTop c tables buffer buffer' (Err r) =
    FirstFailed (save_checks c.sets c.count (length buffer) (length (top_text c tables))) (number_of r) × (buffer' ≡ buffer)

-- Hide: some finite set in place of set i makes the top true. Met counts the collections of residuals of the top, each
-- taken over the words that are equal but for bit i.
abbrev pub HidesTop : ℕ → ℕ → ℕ → Control → List ℕ → Control → List ℕ → Result (ℕ × ℕ) Refusal → Type 0
HidesTop records links i c tables c' tables' r =
    Builds
    (hide_checks c.sets c.budget c.count records links i ++ too_many c.sets (SameCollection c.sets i (says c tables (c.count - 1))) c.budget)
    (c.count - 1) (SameCollection c.sets i (says c tables (c.count - 1))) (Hides c.sets i (says c tables (c.count - 1))) c tables c' tables' r
