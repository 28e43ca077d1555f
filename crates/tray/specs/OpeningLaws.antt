-- Memory and opening: one memory that is cut has room exactly when the whole has, and what was opened can be opened again.
use Rattle.std.specs.Prelude.{◌≡◌, ℕ, ◌+◌, ◌*◌, ◌<◌, ◌≤◌, ◌⊎◌, ◌↔◌, length}
use Rattle.words.specs.Rows.{width}
use Rattle.tray.specs.declared.tray.Tray.{Tray}
use Rattle.tray.specs.Checks.{AllPass}
use Rattle.tray.specs.Memory.{SameMemory}
use Rattle.tray.specs.Opening.{open_checks, tables_part}

pub record OpeningLaws : Type 0 where
  -- a memory that `within` cuts is too short for open, by check 4, exactly where all slots do not fit into the whole
  pub cut : (n b d tables spare : ℕ) → n ≤ 8 → b ≤ 512 → d ≤ 16 → tables ≡ tables_part n b d (tables + spare)
      → ((tables < d * (b * width n)) ⊎ (spare < 2 * (b * width n))) ↔ (tables + spare < (d + 2) * (b * width n))
  -- over the same memory open finds as much as before
  pub again : (t t' : Tray) (n b d : ℕ) → SameMemory t t' → AllPass (open_checks n b d (length t.tables.now) (length t.spare.now))
      → AllPass (open_checks n b d (length t'.tables.now) (length t'.spare.now))
