-- The last word that each board recorded.
use Rattle.std.specs.Prelude.{◌≡◌, Some, Option}
use Rattle.trial.specs.declared.past.Past.{Past}
use Rattle.trial.specs.declared.past.Seen.{Seen}
use Rattle.trial.specs.declared.recording.Board.{Board}
use Rattle.trial.specs.declared.recording.Board.TheVariants.{Adder, Counter}

abbrev pub last_of : Past → Board → Option Seen
last_of past Adder = past.adder
last_of past Counter = past.counter

-- the board's last word is this one, and the other's is as it was
abbrev pub LastIs : Board → Seen → Past → Past → Type 0
LastIs Adder seen past past' = (past'.adder ≡ Some seen) × (past'.counter ≡ past.counter)
LastIs Counter seen past past' = (past'.counter ≡ Some seen) × (past'.adder ≡ past.adder)
