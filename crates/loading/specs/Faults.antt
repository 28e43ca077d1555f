-- What a fault of a whole text says: a number, a layer, and the line at fault.
use Rattle.std.specs.Prelude.{◌≡◌, ℕ, ◌≤◌}
use Rattle.loading.specs.declared.reading.Fault.{Fault}
use Rattle.loading.specs.declared.unloaded.Unloaded.{Unloaded}
use Rattle.loading.specs.declared.unloaded.Unloaded.TheVariants.{NoMemory, NoName, WrongNames, WrongLine, NoState, Unsettled, NoRow, Full}
use Rattle.loading.specs.Numbers.{number_of, unloaded_layer}

abbrev pub fault_number : Fault → ℕ
fault_number fault = number_of fault.why

abbrev pub fault_layer : Fault → ℕ
fault_layer fault = unloaded_layer fault.why

-- The lines that each reason can stand at, counted from 1: the line of names, and the lines of the at most 512 states. A reason
-- of the whole table stands at none, which is 0.
abbrev pub StandsAt : Unloaded → ℕ → Type 0
StandsAt NoMemory line = line ≡ 1
StandsAt WrongNames line = line ≡ 1
StandsAt WrongLine line = (2 ≤ line) × (line ≤ 513)
StandsAt Full line = line ≡ 514
StandsAt NoName line = line ≡ 0
StandsAt NoRow line = line ≡ 0
StandsAt NoState line = line ≡ 0
StandsAt Unsettled line = line ≡ 0
