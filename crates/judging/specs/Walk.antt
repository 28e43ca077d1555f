-- Walks from a state back to the start: contracts of the functions within. A reader of the statement can pass over this file.
use Rattle.std.specs.Prelude.{◌≡◌, ℕ, ◌^◌, ◌<◌, ◌≤◌, ◌⊎◌, List, length, take, drop, Option, MatchOption}
use Rattle.words.specs.Automata.{Automaton}
use Rattle.words.specs.Order.{Before, PairNotAfter}
use Rattle.words.specs.Described.{described, IsTable}
use Rattle.words.specs.declared.rows.Rows.{Rows}
use Rattle.judging.specs.declared.walk.Link.{Link}
use Rattle.judging.specs.declared.walk.Links.{Links}

-- a column leads from row r to state j
abbrev pub LeadsTo : Automaton → ℕ → ℕ → ℕ → Type 0
LeadsTo a j r c = (c < 2 ^ a.places) × (a.step r c ≡ j)

-- the first column that leads from row r to state j
abbrev pub FirstColumn : Automaton → ℕ → ℕ → Option ℕ → Type 0
FirstColumn a j r found =
    MatchOption found ((c : ℕ) → ¬ LeadsTo a j r c) (λ c. LeadsTo a j r c × ((d : ℕ) → LeadsTo a j r d → Before c d ⊎ (c ≡ d)))

-- the first pair of a row below j and a column that leads from there to state j
abbrev pub FirstPair : Automaton → ℕ → Option Link → Type 0
FirstPair a j found =
    MatchOption found ((r c : ℕ) → r < j → ¬ LeadsTo a j r c)
    (λ link. (link.row < j) × LeadsTo a j link.row link.column
    × ((r c : ℕ) → r < j → LeadsTo a j r c → PairNotAfter link.row link.column r c))

-- a call of `next` gives the first pair that leads to the state at hand, and its row is at hand then; at the end nothing changes
abbrev pub Follows : Links → Option Link → Links → Type 0
Follows s r t = FirstPair (described s.rows.now) s.at r × (t.rows ≡ s.rows) × MatchOption r (t.at ≡ s.at) (λ link. t.at ≡ link.row)

-- in a table, k is the length of the first word of a state; in any memory it is not more than the state
abbrev pub FirstLong : Rows → ℕ → ℕ → Type 0
FirstLong rows state k = (k ≤ state) × ((t : IsTable rows) → state < rows.states → length (t.first state) ≡ k)

-- in a table, the first k bytes are now the first word of a state, if it is so long; in any memory the bytes behind are as they were
abbrev pub Spelled : Rows → ℕ → ℕ → List ℕ → List ℕ → Type 0
Spelled rows state k buffer buffer' =
    (drop k buffer' ≡ drop k buffer)
    × ((t : IsTable rows) → state < rows.states → length (t.first state) ≡ k → take k buffer' ≡ t.first state)
