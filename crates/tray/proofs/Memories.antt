-- A tray over the same memory, and again over the same.
use Rattle.std.proofs.Common.{refl, ◌∙◌}
use Rattle.tray.specs.declared.tray.Tray.{Tray}
use Rattle.tray.specs.Memory.{SameMemory}

pub same_memory : (t : Tray) → SameMemory t t
same_memory t = record { tables = refl; spare = refl; tables_long = refl; spare_long = refl }

pub same_memory_chain : (t t1 t2 : Tray) → SameMemory t t1 → SameMemory t1 t2 → SameMemory t t2
same_memory_chain t t1 t2 a b = record {
  tables = b.tables ∙ a.tables;
  spare = b.spare ∙ a.spare;
  tables_long = b.tables_long ∙ a.tables_long;
  spare_long = b.spare_long ∙ a.spare_long;
}
