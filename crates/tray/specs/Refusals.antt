-- The number of each refusal.
use Rattle.std.specs.Prelude.{ℕ}
use Rattle.tables.specs.declared.exploration.Unexplored.{Unexplored}
use Rattle.tables.specs.declared.exploration.Unexplored.TheVariants.{NoRoom, TooMany}
use Rattle.saving.specs.declared.unsaved.Unsaved.{Unsaved}
use Rattle.saving.specs.declared.unsaved.Unsaved.TheVariants.{TooManySets as too-many-sets, NoBuffer as no-buffer}
use Rattle.tray.specs.declared.refusal.Refusal.{Refusal}
use Rattle.tray.specs.declared.refusal.Refusal.TheVariants.{WrongSets, WrongBudget, WrongDepth, NoMemory, NoPredicate, WrongPlaces, NoSet, NoBuffer, TooManySets, Full, TooFewTables, TooManyStates}

abbrev pub number_of : Refusal → ℕ
number_of WrongSets = 1
number_of WrongBudget = 2
number_of WrongDepth = 3
number_of NoMemory = 4
number_of NoPredicate = 5
number_of WrongPlaces = 6
number_of NoSet = 7
number_of NoBuffer = 8
number_of TooManySets = 20
number_of Full = 21
number_of TooFewTables = 22
number_of TooManyStates = 23

-- what an exploration that ended without a table is refused for
abbrev pub refusal_of : Unexplored → Refusal
refusal_of NoRoom = NoMemory
refusal_of TooMany = TooManyStates

-- and a save that wrote nothing
abbrev pub unsaved_of : Unsaved → Refusal
unsaved_of too-many-sets = TooManySets
unsaved_of no-buffer = NoBuffer
