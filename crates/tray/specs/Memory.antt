-- Whose memory a tray lies over, and how long it is.
use Rattle.std.specs.Prelude.{◌≡◌, length}
use Rattle.tray.specs.declared.tray.Tray.{Tray}

-- The tray lies over the same memory as before, so that its owners find there what the tray wrote; and each part is as
-- long as before, so that what could be opened over it can be opened again.
pub record SameMemory (t t' : Tray) : Type 0 where
  pub tables : t'.tables.ghost_name ≡ t.tables.ghost_name
  pub spare : t'.spare.ghost_name ≡ t.spare.ghost_name
  pub tables_long : length t'.tables.now ≡ length t.tables.now
  pub spare_long : length t'.spare.now ≡ length t.spare.now
