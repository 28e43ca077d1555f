-- What hiding a set of a table comes to: the table of the words of which some word that is equal but for one bit, followed by
-- columns with no bit but that one, is accepted by the given table.
use Rattle.std.specs.Prelude.{◌≡◌, ℕ, ◌*◌, ◌<◌, ◌≤◌, List, length, Ok, Err, Decides, Result}
use Rattle.words.specs.Words.{Columns}
use Rattle.words.specs.Described.{language_of}
use Rattle.words.specs.Rows.{width}
use Rattle.words.specs.Residuals.{Count, MoreThan}
use Rattle.words.specs.TableOf.{TableOf, answers}
use Rattle.words.specs.Hiding.{HidesBit, SameCollection}
use Rattle.words.specs.declared.rows.Rows.{Rows}
use Rattle.tables.specs.Tabulated.{Elsewhere, Enough}
use Rattle.tables.specs.declared.exploration.Unexplored.{Unexplored}
use Rattle.tables.specs.declared.exploration.Unexplored.TheVariants.{NoRoom, TooMany}
use Rattle.tables.specs.declared.memory.Memory.{Memory}
use Rattle.tables.specs.declared.tabulation.Counts.{Counts}
use Rattle.hiding.specs.declared.state_set.StateSet.{StateSet}

-- room for the table, a set i that the rows have, and no more than 512 states
abbrev pub Ready : Rows → ℕ → ℕ → Memory StateSet → List ℕ → Type 0
Ready rows i budget memory table =
    Enough rows.places budget (length memory.records.now) (length memory.links.now) (length memory.rows.now) (length table) 0
    × (i < rows.places) × (rows.states ≤ 512)

-- The answer of `tabulate_hidden`, for the rows of a given table. Met counts the words up to their collections of residuals
-- in the words that it accepts, kept up to the residuals of what is told. Unless there is no room, the memory is work
-- memory, and nothing is said of what it holds in the end.
abbrev pub TabulatesHidden : Rows → ℕ → ℕ → Memory StateSet → List ℕ → Memory StateSet → List ℕ → Result Counts Unexplored → Type 0
TabulatesHidden rows i budget memory table memory' table' (Ok t) =
    Ready rows i budget memory table
    × (t.met ≤ budget) × (t.kept ≤ t.met)
    × TableOf rows.places (answers rows.places t.kept table') table' t.kept
    × Count rows.places (SameCollection rows.places i (language_of rows)) t.met
    × ((w : List ℕ) → Columns rows.places w → Decides (answers rows.places t.kept table' w) (HidesBit rows.places i (language_of rows) w))
    × Elsewhere 0 (t.kept * width rows.places) table table'
TabulatesHidden rows i budget memory table memory' table' (Err TooMany) =
    Ready rows i budget memory table × MoreThan rows.places (SameCollection rows.places i (language_of rows)) budget × (table' ≡ table)
TabulatesHidden rows i budget memory table memory' table' (Err NoRoom) =
    (Ready rows i budget memory table → ⊥)
    × (memory'.records.now ≡ memory.records.now) × (memory'.links.now ≡ memory.links.now) × (memory'.rows.now ≡ memory.rows.now) × (table' ≡ table)
