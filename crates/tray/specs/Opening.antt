-- Opening a tray.
use Rattle.std.specs.Prelude.{◌≡◌, ℕ, ◌*◌, ◌<◌, ◌⊎◌, ◌&&◌, nat_le, min, if◌then◌else◌, List, [], ◌∷◌, Ok, Err, Result}
use Rattle.words.specs.Rows.{width}
use Rattle.tray.specs.declared.control.Control.{Control}
use Rattle.tray.specs.declared.refusal.Refusal.{Refusal}
use Rattle.tray.specs.Refusals.{number_of}
use Rattle.tray.specs.Checks.{FirstFailed, AllPass}

-- n sets, a budget of b states, a depth of d tables, and so many numbers of table and of work memory
abbrev pub open_checks : ℕ → ℕ → ℕ → ℕ → ℕ → List (ℕ × Type 0)
open_checks n b d tables spare =
    (1, (n < 1) ⊎ (8 < n)) ∷ (2, (b < 1) ⊎ (512 < b)) ∷ (3, (d < 1) ⊎ (16 < d))
    ∷ (4, (tables < d * (b * width n)) ⊎ (spare < 2 * (b * width n))) ∷ []

-- the control record after open
abbrev pub Opens : ℕ → ℕ → ℕ → ℕ → ℕ → Control → Control → Result (Unit {0}) Refusal → Type 0
Opens n b d tables spare c c' (Ok _) =
    AllPass (open_checks n b d tables spare) × (c'.sets ≡ n) × (c'.budget ≡ b) × (c'.depth ≡ d) × (c'.count ≡ 0)
Opens n b d tables spare c c' (Err r) = FirstFailed (open_checks n b d tables spare) (number_of r) × (c' ≡ c)

-- How many numbers of one memory, which has `long` of them, a tray that is made over it has for tables: the slots that
-- they take, or all there are; none where a setting is above its range. The rest is work memory.
abbrev pub tables_part : ℕ → ℕ → ℕ → ℕ → ℕ
tables_part n b d long = if nat_le n 8 && nat_le b 512 && nat_le d 16 then min long (d * (b * width n)) else 0
