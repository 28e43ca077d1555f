-- Links: for each state but the first its parent, and the column by which it was met from there. Two numbers to a state.
use Rattle.std.specs.Prelude.{ℕ, zero, suc, ◌+◌, ◌*◌, List, [], ◌∷◌, ◌++◌, slice_index}

abbrev pub parent_of : List ℕ → ℕ → ℕ
parent_of links j = slice_index links (2 * j)

abbrev pub column_of : List ℕ → ℕ → ℕ
column_of links j = slice_index links (2 * j + 1)

-- the columns on the way from the first state to j, at most `fuel` of them
abbrev pub trace : (ℕ → ℕ) → (ℕ → ℕ) → ℕ → ℕ → List ℕ
trace parent column zero j = []
trace parent column (suc fuel) zero = []
trace parent column (suc fuel) (suc j) = trace parent column fuel (parent (suc j)) ++ column (suc j) ∷ []

-- the word of j through its parents; each is lower than its child, so that j turns are enough
abbrev pub trail : (ℕ → ℕ) → (ℕ → ℕ) → ℕ → List ℕ
trail parent column j = trace parent column j j
