-- The earliest word that serves, and a buffer into which it was written.
use Rattle.std.specs.Prelude.{◌≡◌, ℕ, ◌≤◌, List, length, take, drop, Some, None, Option}
use Rattle.words.specs.Words.{Columns}
use Rattle.words.specs.Order.{NotLater}

-- w serves, and no word of columns that serves is earlier
pub record Earliest (n : ℕ) (Serves : List ℕ → Type 0) (w : List ℕ) : Type 0 where
  pub columns : Columns n w
  pub serves : Serves w
  pub least : (v : List ℕ) → Columns n v → Serves v → NotLater w v

-- What was told of the earliest word that serves: its length, where it stands at the front of the buffer now and the bytes
-- behind it are as they were; or none, where no word of columns serves and the buffer is as it was.
abbrev pub Written : ℕ → (List ℕ → Type 0) → List ℕ → List ℕ → Option ℕ → Type 0
Written n Serves buffer buffer' (Some k) =
    (k ≤ length buffer) × (length buffer' ≡ length buffer) × Earliest n Serves (take k buffer') × (drop k buffer' ≡ drop k buffer)
Written n Serves buffer buffer' None = ((w : List ℕ) → Columns n w → Serves w → ⊥) × (buffer' ≡ buffer)
