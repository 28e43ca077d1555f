-- Languages, residuals, and how many of something there are.
-- A language over n sets is a test of words; only words of columns below 2^n count.
use Rattle.std.specs.Prelude.{◌≡◌, ℕ, ◌<◌, ◌≤◌, Bool, List, ◌++◌}
use Rattle.words.specs.Words.{Columns, coded}
use Rattle.words.specs.Automata.{Automaton, run}

-- u and w have the same residual: the same words complete them to words of the language
abbrev pub SameResidual : ℕ → (List ℕ → Bool) → List ℕ → List ℕ → Type 0
SameResidual n L u w = (v : List ℕ) → Columns n v → L (u ++ v) ≡ L (w ++ v)

-- u and w have the same pair of residuals in two languages
abbrev pub SamePair : ℕ → (List ℕ → Bool) → (List ℕ → Bool) → List ℕ → List ℕ → Type 0
SamePair n L M u w = SameResidual n L u w × SameResidual n M u w

-- the language depends only on the sets that a word codes
abbrev pub BySets : ℕ → (List ℕ → Bool) → Type 0
BySets n L = (u w : List ℕ) → Columns n u → Columns n w → ((i : ℕ) → i < n → coded i u ≡ coded i w) → L u ≡ L w

-- two states of an automaton are left by the same words to acceptance
abbrev pub SameFrom : ℕ → Automaton → ℕ → ℕ → Type 0
SameFrom n a s t = (v : List ℕ) → Columns n v → a.accepts (run a.step s v) ≡ a.accepts (run a.step t v)

-- sameness that is an equality
pub record Equality (Same : List ℕ → List ℕ → Type 0) : Type 0 where
  pub itself : (u : List ℕ) → Same u u
  pub back : (u w : List ℕ) → Same u w → Same w u
  pub chain : (u w v : List ℕ) → Same u w → Same w v → Same u v

-- Up to the given sameness there are exactly k words: k of them, no two the same, and every word is the same as one.
pub record Count (n : ℕ) (Same : List ℕ → List ℕ → Type 0) (k : ℕ) : Type 0 where
  pub word : ℕ → List ℕ
  pub columns : (j : ℕ) → j < k → Columns n (word j)
  pub different : (i j : ℕ) → i < k → j < k → Same (word i) (word j) → i ≡ j
  pub every : (w : List ℕ) → Columns n w → (j : ℕ) × (j < k) × Same w (word j)

-- Up to the given sameness there are more than k words: k + 1 of them, no two the same.
pub record MoreThan (n : ℕ) (Same : List ℕ → List ℕ → Type 0) (k : ℕ) : Type 0 where
  pub word : ℕ → List ℕ
  pub columns : (j : ℕ) → j ≤ k → Columns n (word j)
  pub different : (i j : ℕ) → i ≤ k → j ≤ k → Same (word i) (word j) → i ≡ j
