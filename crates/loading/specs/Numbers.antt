-- The number and the layer of each reason why a saved table is not loaded, and what is printed of it.
use Rattle.std.specs.Prelude.{ℕ, List, codes}
use Rattle.checks.specs.Layers.{layer_of}
use Rattle.loading.specs.declared.unloaded.Unloaded.{Unloaded}
use Rattle.loading.specs.declared.unloaded.Unloaded.TheVariants.{NoMemory, NoName, WrongNames, WrongLine, NoState, Unsettled, NoRow, Full}

abbrev pub number_of : Unloaded → ℕ
number_of NoMemory = 4
number_of NoName = 10
number_of WrongNames = 16
number_of WrongLine = 17
number_of NoState = 18
number_of Unsettled = 19
number_of NoRow = 24
number_of Full = 25

abbrev pub unloaded_layer : Unloaded → ℕ
unloaded_layer why = layer_of (number_of why)

abbrev pub unloaded_text : Unloaded → List ℕ
unloaded_text NoMemory = codes "memory that the call was given is too short"
unloaded_text NoName = codes "the name is not three lower-case letters"
unloaded_text WrongNames = codes "the first line is not a line of names"
unloaded_text WrongLine = codes "a line or a value in it is malformed"
unloaded_text NoState = codes "a next state is not below the number of rows"
unloaded_text Unsettled = codes "a state and the one that column 0 leads to do not accept alike"
unloaded_text NoRow = codes "the draft has no row"
unloaded_text Full = codes "the draft has 512 rows already"
