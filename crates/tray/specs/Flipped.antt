-- Rows with every mark turned over.
use Rattle.std.specs.Prelude.{◌≡◌, ℕ, ◌+◌, ◌-◌, ◌*◌, ◌^◌, ◌<◌, cond, List, ◌==◌, ◌≢◌, slice_index}
use Rattle.words.specs.Rows.{width}
use Rattle.tray.specs.declared.control.Control.{Control}
use Rattle.tray.specs.View.{slot, size_of}

-- the place of a mark
abbrev pub mark_at : ℕ → ℕ → ℕ → ℕ
mark_at n base j = base + (j * width n + 2 ^ n)

-- the marks of the first `size` rows from `base` on are turned over, and nothing else changed
pub record Flipped (n base size : ℕ) (tables tables' : List ℕ) : Type 0 where
  pub marks : (j : ℕ) → j < size → slice_index tables' (mark_at n base j) ≡ cond (slice_index tables (mark_at n base j) == 1) 0 1
  pub others : (i : ℕ) → ((j : ℕ) → j < size → i ≢ mark_at n base j) → slice_index tables' i ≡ slice_index tables i

-- the marks of the top table are turned over, and no other number of the table memory is written
abbrev pub FlipsTop : Control → List ℕ → List ℕ → Type 0
FlipsTop c tables tables' = Flipped c.sets ((c.count - 1) * slot c) (size_of c (c.count - 1)) tables tables'
