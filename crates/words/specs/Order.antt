-- The order of words: shorter ones first, and among equally long ones by the first column in which they differ.
use Rattle.std.specs.Prelude.{◌≡◌, ℕ, ◌<◌, ◌⊎◌, List, [], ◌∷◌, length}

-- The order of columns, and the one place that says it: the smaller number is earlier.
abbrev pub Before : ℕ → ℕ → Type 0
Before c d = c < d

-- two words of one length: w has the earlier column where they first differ
abbrev pub Leads : List ℕ → List ℕ → Type 0
Leads [] v = ⊥
Leads (c ∷ w) [] = ⊥
Leads (c ∷ w) (d ∷ v) = Before c d ⊎ ((c ≡ d) × Leads w v)

-- w is earlier than v
abbrev pub Precedes : List ℕ → List ℕ → Type 0
Precedes w v = (length w < length v) ⊎ ((length w ≡ length v) × Leads w v)

-- w is v, or earlier
abbrev pub NotLater : List ℕ → List ℕ → Type 0
NotLater w v = (w ≡ v) ⊎ Precedes w v

-- The columns over n sets in their order: the k-th of them, and the place of a column.
abbrev pub nth_column : ℕ → ℕ → ℕ
nth_column n k = k

abbrev pub column_place : ℕ → ℕ → ℕ
column_place n c = c

-- pairs of a number and a column, by the number first: (a, c) is before (b, d); it is (b, d) or before it
abbrev pub PairBefore : ℕ → ℕ → ℕ → ℕ → Type 0
PairBefore a c b d = (a < b) ⊎ ((a ≡ b) × Before c d)

abbrev pub PairNotAfter : ℕ → ℕ → ℕ → ℕ → Type 0
PairNotAfter a c b d = PairBefore a c b d ⊎ ((a ≡ b) × (c ≡ d))
