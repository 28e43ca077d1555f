-- What a tray holds, as its control record and its table memory show it. Table k, counted from the lowest, lies in slot k.
use Rattle.std.specs.Prelude.{ℕ, ◌+◌, ◌*◌, ◌<◌, ◌≤◌, Bool, List, drop, slice_index}
use Rattle.words.specs.Rows.{width}
use Rattle.words.specs.Residuals.{BySets}
use Rattle.words.specs.TableOf.{TableOf, answers}
use Rattle.tray.specs.declared.control.Control.{Control}

-- how many numbers a slot has: a row for each state of the budget
abbrev pub slot : Control → ℕ
slot c = c.budget * width c.sets

-- the states of table k, and the memory from its first row on
abbrev pub size_of : Control → ℕ → ℕ
size_of c k = slice_index c.sizes k

abbrev pub rows_of : Control → List ℕ → ℕ → List ℕ
rows_of c tables k = drop (k * slot c) tables

-- the control record with other tables
abbrev pub moved : Control → ℕ → List ℕ → Control
moved c count sizes = record { sets = c.sets; budget = c.budget; depth = c.depth; count = count; sizes = sizes }

-- slot k lies within a memory of so many numbers, under settings that a tray can have
pub record Within (c : Control) (k long : ℕ) : Type 0 where
  pub sets : c.sets ≤ 8
  pub budget : c.budget ≤ 512
  pub there : k < 16
  pub slots : k * slot c + slot c ≤ long

-- whether table k accepts a word
abbrev pub says : Control → List ℕ → ℕ → List ℕ → Bool
says c tables k w = answers c.sets (size_of c k) (rows_of c tables k) w

-- What a tray keeps true of table k: it fits its slot, it is the table of the words that it accepts, and whether it accepts
-- a word depends only on the sets that the word codes.
pub record Stands (c : Control) (tables : List ℕ) (k : ℕ) : Type 0 where
  pub fits : size_of c k ≤ c.budget
  pub table : TableOf c.sets (says c tables k) (rows_of c tables k) (size_of c k)
  pub by_sets : BySets c.sets (says c tables k)
