-- Names of predicates, as bytes.
use Rattle.std.specs.Prelude.{◌≡◌, ℕ, ◌<◌, ◌≤◌, List, [], ◌∷◌, length, Option, MatchOption, ◌≢◌, slice_index_or, position}
use Rattle.std.specs.Str.{bytes_eq}

-- each byte is a lower-case letter: a is 97 and z is 122
abbrev pub Letters : List ℕ → Type 0
Letters [] = Unit {0}
Letters (b ∷ bs) = (97 ≤ b) × (b ≤ 122) × Letters bs

-- a name is three lower-case letters
abbrev pub IsName : List ℕ → Type 0
IsName name = (length name ≡ 3) × Letters name

-- the place of the first of the names that the bytes are
abbrev pub place_of : List ℕ → List (List ℕ) → Option ℕ
place_of name names = position (λ n. bytes_eq name n) names

-- a number answers for the bytes that are the name at its place, and none for all others
abbrev pub Finds : List (List ℕ) → List ℕ → Option ℕ → Type 0
Finds names name r =
    MatchOption r ((k : ℕ) → k < length names → name ≢ slice_index_or names k []) (λ k. (k < length names) × (name ≡ slice_index_or names k []))
