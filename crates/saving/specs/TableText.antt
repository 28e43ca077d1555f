-- The text of a table: a line of names, and then a line for each state.
use Rattle.std.specs.Prelude.{ℕ, zero, suc, ◌^◌, cond, List, [], ◌∷◌, ◌++◌, map, codes, decimal}
use Rattle.std.specs.List.{flat_map}
use Rattle.words.specs.Automata.{Automaton}
use Rattle.words.specs.Rows.{written}

-- texts with one space between neighbours
abbrev pub spaced : List (List ℕ) → List ℕ
spaced [] = []
spaced (v ∷ vs) = v ++ flat_map (λ u. codes " " ++ u) vs

-- a line: its values one space apart, and byte 10
abbrev pub line_of : List (List ℕ) → List ℕ
line_of values = spaced values ++ (10 ∷ [])

-- the first k numbers: 0, 1 and on to k - 1
abbrev pub numbers : ℕ → List ℕ
numbers zero = []
numbers (suc k) = numbers k ++ (k ∷ [])

-- the line of names over n sets: `state`, `accepts`, and `n` with its number for each column
abbrev pub column_name : ℕ → List ℕ
column_name c = codes "n" ++ decimal c

unfoldable pub names_line : ℕ → List ℕ
names_line n = line_of (codes "state" ∷ codes "accepts" ∷ map column_name (numbers (2 ^ n)))

-- the numbers in the line of a state: itself, 1 if it accepts and 0 if not, and the next state by each column
abbrev pub row_values : Automaton → ℕ → List ℕ
row_values a s = s ∷ cond (a.accepts s) 1 0 ∷ map (a.step s) (numbers (2 ^ a.places))

unfoldable pub row_line : Automaton → ℕ → List ℕ
row_line a s = line_of (map decimal (row_values a s))

-- the text of the table over n sets with `size` states that lies in `rows`: the line of names, and the lines of the states in order
unfoldable pub table_text : ℕ → ℕ → List ℕ → List ℕ
table_text n size rows = names_line n ++ flat_map (row_line (written n size rows)) (numbers size)
