-- A predicate of a book on listed sets, as a kind of state: columns are read through the listed sets.
use Rattle.std.specs.Prelude.{◌≡◌, ℕ, List, map}
use Rattle.words.specs.Automata.{Automaton, Moves, run}
use Rattle.words.specs.Formulas.{through}

abbrev pub asked : Automaton → List ℕ → Moves ℕ
asked a listed = record { start = a.start; next = λ s c. a.step s (through listed c); final = a.accepts }

-- the runs over two words, read through the listed sets, end in the same state
abbrev pub SameBookState : Automaton → List ℕ → List ℕ → List ℕ → Type 0
SameBookState a listed u w = run a.step a.start (map (through listed) u) ≡ run a.step a.start (map (through listed) w)
