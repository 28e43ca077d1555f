-- The names of the boards in a recording.
use Rattle.std.specs.Prelude.{◌≡◌, ℕ, List, codes, Ok, Err, Result, ◌≢◌}
use Rattle.trial.specs.declared.recording.Board.{Board}
use Rattle.trial.specs.declared.recording.Board.TheVariants.{Adder, Counter}
use Rattle.trial.specs.declared.recording.Unread.{Unread}
use Rattle.trial.specs.declared.recording.Unread.TheVariants.{NoBoard}

abbrev pub name_of : Board → List ℕ
name_of Adder = codes "adder"
name_of Counter = codes "counter"

-- the board with this name, or that there is none
abbrev pub IsNamed : List ℕ → Result Board Unread → Type 0
IsNamed name (Ok board) = name ≡ name_of board
IsNamed name (Err e) = (e ≡ NoBoard) × ((board : Board) → name ≢ name_of board)
