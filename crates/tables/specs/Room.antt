-- The memory that an exploration needs, and that it is still the same memory afterwards.
use Rattle.std.specs.Prelude.{◌≡◌, ℕ, ◌*◌, ◌≤◌, length}
use Rattle.words.specs.Rows.{width}
use Rattle.tables.specs.declared.memory.Memory.{Memory}

-- over n sets, for at most `budget` states: so many records, links and table numbers
pub record Room (n budget records links rows : ℕ) : Type 0 where
  pub sets : n ≤ 8
  pub some : 1 ≤ budget
  pub few : budget ≤ 512
  pub records_enough : budget ≤ records
  pub links_enough : 8 * budget ≤ links
  pub rows_enough : budget * width n ≤ rows

-- the memory is still over the same three slices, as long as before
pub record SameOwners {S : Type 0} (memory memory' : Memory S) : Type 0 where
  pub records : memory'.records.ghost_name ≡ memory.records.ghost_name
  pub links : memory'.links.ghost_name ≡ memory.links.ghost_name
  pub rows : memory'.rows.ghost_name ≡ memory.rows.ghost_name
  pub records_long : length memory'.records.now ≡ length memory.records.now
  pub links_long : length memory'.links.now ≡ length memory.links.now
  pub rows_long : length memory'.rows.now ≡ length memory.rows.now
