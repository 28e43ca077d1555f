-- What seal answers.
use Rattle.std.specs.Prelude.{◌≡◌, ℕ, ◌*◌, List, take, Ok, Err, Result}
use Rattle.words.specs.Rows.{width}
use Rattle.tray.specs.Checks.{FirstFailed, AllPass}
use Rattle.loading.specs.declared.draft.Draft.{Draft}
use Rattle.loading.specs.declared.loaded.Loaded.{Loaded}
use Rattle.loading.specs.declared.seal.Unsealed.{Unsealed}
use Rattle.loading.specs.Drafts.{seal_checks}
use Rattle.loading.specs.Numbers.{number_of}

-- the place holds the rows of the draft, as they stand in the memory, under the name
pub record Holds (d : Draft) (memory bytes : List ℕ) (b : Loaded) : Type 0 where
  pub name : b.name ≡ bytes
  pub places : b.places ≡ d.places
  pub states : b.states ≡ d.rows
  pub cells : take (d.rows * width d.places) b.cells ≡ take (d.rows * width d.places) memory

-- Every check passes, and the place holds the rows of the draft. Or the first check that fails is told, the draft comes back, and
-- the place is as it was.
abbrev pub Seals : Draft → List ℕ → List ℕ → Loaded → Loaded → Result (Unit {0}) Unsealed → Type 0
Seals d memory name b b' (Ok _) = AllPass (seal_checks d memory name) × Holds d memory name b'
Seals d memory name b b' (Err x) = FirstFailed (seal_checks d memory name) (number_of x.why) × (x.draft ≡ d) × (b' ≡ b)
