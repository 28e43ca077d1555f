-- Words of columns, and the sets that a word codes.
-- A column over n sets is a number below 2^n whose bit i is that of set i. A word is a list of columns.
use Rattle.std.specs.Prelude.{ℕ, ◌+◌, ◌*◌, ◌^◌, ◌<◌, List, [], ◌∷◌, map}
use Rattle.std.specs.List.{range_with_len}
use Rattle.words.specs.Sets.{bit}

-- each column of the word is below 2^n
abbrev pub Columns : ℕ → List ℕ → Type 0
Columns n [] = Unit {0}
Columns n (c ∷ w) = (c < 2 ^ n) × Columns n w

-- the set i of a word: bit i of its first column says whether 0 is a member, and the rest of the word codes the rest
abbrev pub coded : ℕ → List ℕ → ℕ
coded i [] = 0
coded i (c ∷ w) = bit i c + 2 * coded i w

-- the sets 0 to n - 1 of a word, in order (`range_with_len 0 n` is the list of the numbers below n)
abbrev pub sets : ℕ → List ℕ → List ℕ
sets n w = map (λ i. coded i w) (range_with_len 0 n)
