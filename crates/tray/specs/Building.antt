-- Building calls: each puts one new table on top of those that it leaves, and answers two counts.
use Rattle.std.specs.Prelude.{◌≡◌, ℕ, ◌+◌, ◌*◌, ◌<◌, ◌≤◌, List, Ok, Err, Decides, Result}
use Rattle.words.specs.Words.{Columns}
use Rattle.words.specs.Rows.{width}
use Rattle.words.specs.Residuals.{SameResidual, Count}
use Rattle.tables.specs.Tabulated.{Elsewhere}
use Rattle.tray.specs.declared.control.Control.{Control}
use Rattle.tray.specs.declared.refusal.Refusal.{Refusal}
use Rattle.tray.specs.Refusals.{number_of}
use Rattle.tray.specs.Checks.{FirstFailed, AllPass}
use Rattle.tray.specs.View.{slot, size_of, says}

-- The settings are as before.
pub record SameSettings (c c' : Control) : Type 0 where
  pub sets : c'.sets ≡ c.sets
  pub budget : c'.budget ≡ c.budget
  pub depth : c'.depth ≡ c.depth

-- The lowest `count` tables have as many states and accept the same words as before.
abbrev pub SameTables : ℕ → Control → List ℕ → Control → List ℕ → Type 0
SameTables count c tables c' tables' =
    (k : ℕ) → k < count → (size_of c' k ≡ size_of c k) × ((w : List ℕ) → says c' tables' k w ≡ says c tables k w)

-- Above the lowest `below` tables there is one more. It accepts the words that `Means` speaks of. Met counts words up to
-- `Same`, and kept up to their residuals.
pub record Built (below : ℕ) (Same : List ℕ → List ℕ → Type 0) (Means : List ℕ → Type 0) (met kept : ℕ) (c : Control) (tables : List ℕ) (c' : Control)
    (tables' : List ℕ) : Type 0 where
  pub settings : SameSettings c c'
  pub count : c'.count ≡ below + 1
  pub others : SameTables below c tables c' tables'
  pub means : (w : List ℕ) → Columns c.sets w → Decides (says c' tables' below w) (Means w)
  pub met_few : met ≤ c.budget
  pub met_count : Count c.sets Same met
  pub kept_count : Count c.sets (SameResidual c.sets (says c' tables' below)) kept
  pub size : size_of c' below ≡ kept
  -- no memory is written but the rows of the new table, at the front of its slot
  pub elsewhere : Elsewhere (below * slot c) (kept * width c.sets) tables tables'

-- The answer of a building call with these checks.
abbrev pub Builds : List (ℕ × Type 0) → ℕ → (List ℕ → List ℕ → Type 0) → (List ℕ → Type 0) → Control → List ℕ → Control → List ℕ → Result (ℕ × ℕ) Refusal → Type 0
Builds checks below Same Means c tables c' tables' (Ok counts) = AllPass checks × Built below Same Means counts.0 counts.1 c tables c' tables'
Builds checks below Same Means c tables c' tables' (Err r) = FirstFailed checks (number_of r) × (c' ≡ c) × (tables' ≡ tables)
