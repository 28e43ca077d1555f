-- The table of a language: one state for each residual, numbered by the earliest word that has it.
use Rattle.std.specs.Prelude.{◌≡◌, ℕ, ◌^◌, ◌<◌, ◌≤◌, Bool, cond, List, [], ◌∷◌, ◌++◌}
use Rattle.words.specs.Words.{Columns}
use Rattle.words.specs.Order.{NotLater, Precedes}
use Rattle.words.specs.Automata.{accepted}
use Rattle.words.specs.Rows.{written, next_of, mark_of}
use Rattle.words.specs.Residuals.{SameResidual}

-- The rows are the table of the language L over n sets, which has `size` residuals.
pub record TableOf (n : ℕ) (L : List ℕ → Bool) (rows : List ℕ) (size : ℕ) : Type 0 where
  -- the earliest word of each state
  pub first : ℕ → List ℕ
  pub some : 1 ≤ size
  pub columns : (j : ℕ) → j < size → Columns n (first j)
  pub start : first 0 ≡ []
  pub ordered : (i j : ℕ) → i < j → j < size → Precedes (first i) (first j)
  -- no residual has two states
  pub different : (i j : ℕ) → i < size → j < size → SameResidual n L (first i) (first j) → i ≡ j
  -- every word has the residual of some state, whose first word is not later
  pub every : (w : List ℕ) → Columns n w → (j : ℕ) × (j < size) × SameResidual n L w (first j) × NotLater (first j) w
  -- the rows say where a column leads, and which states accept
  pub next : (j c : ℕ) → j < size → c < 2 ^ n
      → (next_of n rows j c < size) × SameResidual n L (first j ++ c ∷ []) (first (next_of n rows j c))
  pub mark : (j : ℕ) → j < size → mark_of n rows j ≡ cond (L (first j)) 1 0

-- whether a table of that many states accepts a word
abbrev pub answers : ℕ → ℕ → List ℕ → List ℕ → Bool
answers n size rows w = accepted (written n size rows) w
