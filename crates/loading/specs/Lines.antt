-- Lines of a saved table as a draft takes them, by the definitions by which save writes them.
use Rattle.std.specs.Prelude.{◌≡◌, ◌≢◌, ℕ, ◌^◌, ◌<◌, ◌≤◌, Bool, true, false, ◌⊎◌, List, [], ◌∷◌, ◌++◌, map, length, take, decimal, All, Some, None, Option}
use Rattle.words.specs.Rows.{width}
use Rattle.saving.specs.TableText.{line_of, names_line}

-- The line of state s over k places, and the numbers of its row: the next states, each of 16 bits, and the mark.
abbrev pub IsRow : ℕ → ℕ → List ℕ → List ℕ → Type 0
IsRow k s line cells =
    (nexts : List ℕ) × (mark : ℕ) × (length nexts ≡ 2 ^ k) × All (λ v. v ≤ 65535) nexts × (mark ≤ 1)
    × (line ≡ line_of (map decimal (s ∷ mark ∷ nexts))) × (cells ≡ nexts ++ mark ∷ [])

-- Over how many places a line of names is.
abbrev pub NamesLine : List ℕ → Option ℕ → Type 0
NamesLine line (Some k) = (1 ≤ k) × (k ≤ 4) × (line ≡ names_line k)
NamesLine line None = (k : ℕ) → 1 ≤ k → k ≤ 4 → line ≢ names_line k

-- The row that a line lists, at the front of 17 numbers.
abbrev pub RowLine : ℕ → ℕ → List ℕ → Option (List ℕ) → Type 0
RowLine k s line (Some cells) = (length cells ≡ 17) × IsRow k s line (take (width k) cells)
RowLine k s line None = (cells : List ℕ) → IsRow k s line cells → ⊥

-- A line lists exactly as many numbers as there is room for, which now has them; or no numbers that it has room for, and they are as
-- before. There is room for eighteen at most.
abbrev pub ReadsNumbers : List ℕ → List ℕ → List ℕ → Bool → Type 0
ReadsNumbers line old new true = (length new ≡ length old) × All (λ v. v ≤ 65535) new × (line ≡ line_of (map decimal new))
ReadsNumbers line old new false =
    (new ≡ old)
    × ((18 < length old) ⊎ ((vs : List ℕ) → length vs ≡ length old → All (λ v. v ≤ 65535) vs → line ≢ line_of (map decimal vs)))
