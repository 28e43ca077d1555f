-- What a search has in its memory while it is under way: contracts of the functions within it. A reader of the statement
-- can pass over this file.
use Rattle.std.specs.Prelude.{◌≡◌, ℕ, ◌+◌, ◌*◌, ◌<◌, ◌≤◌, ◌⊎◌, List, length, Ok, Err, Result, ◌≢◌, slice_set}
use Rattle.words.specs.Automata.{Moves, SameReach}
use Rattle.words.specs.Residuals.{Count, MoreThan}
use Rattle.words.specs.Rows.{next_of, mark_of}
use Rattle.words.specs.Links.{parent_of, column_of}
use Rattle.words.proofs.Charting.{Charted}
use Rattle.tables.specs.Explored.{Explored, Past, record_of}
use Rattle.tables.specs.declared.exploration.Unexplored.{Unexplored}
use Rattle.tables.specs.declared.exploration.Unexplored.TheVariants.{NoRoom, TooMany}
use Rattle.tables.specs.declared.kind.Kind.{Ghosts}
use Rattle.tables.specs.declared.exploration.Search.{Search}

abbrev pub Chart : {S : Type 0} → Moves S → ℕ → ℕ → ℕ → ℕ → List S → List ℕ → List ℕ → Type 0
Chart m n at k met records links rows =
    Charted m n at k met (record_of m records) (parent_of links) (column_of links) (next_of n rows) (mark_of n rows)

-- none of the records is this state
abbrev pub Unmet : {S : Type 0} → Moves S → ℕ → List S → S → Type 0
Unmet m met records state = (j : ℕ) → j < met → record_of m records j ≢ state

-- ---- of a search

abbrev pub moves_of : {K S : Type 0} {g : Ghosts K S} → Search K S g → Moves S
moves_of {g = g} s = g.moves s.kind.now

-- record j, and the state to which a column leads from it
abbrev pub state_of : {K S : Type 0} {g : Ghosts K S} → Search K S g → ℕ → S
state_of s j = record_of (moves_of s) s.records.now j

abbrev pub after : {K S : Type 0} {g : Ghosts K S} → Search K S g → ℕ → ℕ → S
after s at column = (moves_of s).next (state_of s at) column

-- the rows before `at` are whole, and the row of `at` up to its k-th column
abbrev pub Charts : {K S : Type 0} {g : Ghosts K S} → Search K S g → ℕ → ℕ → Type 0
Charts s at k = Chart (moves_of s) s.limits.sets at k s.met s.records.now s.links.now s.rows.now

abbrev pub New : {K S : Type 0} {g : Ghosts K S} → Search K S g → S → Type 0
New s state = Unmet (moves_of s) s.met s.records.now state

-- The search went on: over the same kind, limits and memory, with no record less and nothing changed past its rows.
pub record Onward {K S : Type 0} {g : Ghosts K S} (s s' : Search K S g) : Type 0 where
  pub kind : s'.kind ≡ s.kind
  pub limits : s'.limits ≡ s.limits
  pub records : s'.records.ghost_name ≡ s.records.ghost_name
  pub links : s'.links.ghost_name ≡ s.links.ghost_name
  pub rows : s'.rows.ghost_name ≡ s.rows.ghost_name
  pub records_long : length s'.records.now ≡ length s.records.now
  pub links_long : length s'.links.now ≡ length s.links.now
  pub rows_long : length s'.rows.now ≡ length s.rows.now
  pub met : s.met ≤ s'.met
  pub past : Past s.limits.sets s.limits.budget s.rows.now s'.rows.now

-- The state to which a column leads from record `at` is record `to`, and nothing changed.
pub record Known {K S : Type 0} {g : Ghosts K S} (s : Search K S g) (at column : ℕ) (s' : Search K S g) (to : ℕ) : Type 0 where
  pub met : s'.met ≡ s.met
  pub within : to < s.met
  pub leads : state_of s to ≡ after s at column
  pub records : s'.records.now ≡ s.records.now
  pub links : s'.links.now ≡ s.links.now

-- It was not met before and becomes the last record, with `at` as its parent and the column.
pub record Recorded {K S : Type 0} {g : Ghosts K S} (s : Search K S g) (at column : ℕ) (s' : Search K S g) (to : ℕ) : Type 0 where
  pub met : s'.met ≡ s.met + 1
  pub last : to ≡ s.met
  pub new : New s (after s at column)
  pub records : s'.records.now ≡ slice_set s.records.now s.met (after s at column)
  pub links : s'.links.now ≡ slice_set (slice_set s.links.now (2 * s.met) at) (2 * s.met + 1) column

-- what becomes of it, or it is new and the budget is used up
abbrev pub Follows : {K S : Type 0} {g : Ghosts K S} → Search K S g → ℕ → ℕ → Search K S g → Result ℕ Unexplored → Type 0
Follows s at column s' (Ok to) = Known s at column s' to ⊎ Recorded s at column s' to
Follows s at column s' (Err TooMany) = (s.met ≡ s.limits.budget) × New s (after s at column)
Follows s at column s' (Err NoRoom) = ⊥

-- the search was extended up to the k-th column of record `at`, or more states than the budget are reached
abbrev pub Extends : {K S : Type 0} {g : Ghosts K S} → Search K S g → ℕ → ℕ → Search K S g → Result Unit Unexplored → Type 0
Extends s at k s' (Ok _) = Charts s' at k
Extends s at k s' (Err TooMany) = MoreThan s.limits.sets (SameReach (moves_of s)) s.limits.budget
Extends s at k s' (Err NoRoom) = ⊥

-- all records were looked at: they are the states that words lead to, or more states than the budget are reached
abbrev pub Finds : {K S : Type 0} {g : Ghosts K S} → Search K S g → Search K S g → Result ℕ Unexplored → Type 0
Finds s s' (Ok met) =
    (met ≤ s.limits.budget) × Explored (moves_of s) s.limits.sets met s'.records.now s'.links.now s'.rows.now
    × Count s.limits.sets (SameReach (moves_of s)) met
Finds s s' (Err TooMany) = MoreThan s.limits.sets (SameReach (moves_of s)) s.limits.budget
Finds s s' (Err NoRoom) = ⊥
