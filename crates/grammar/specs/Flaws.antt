-- The number and the layer of each flaw, and what is printed of it.
use Rattle.std.specs.Prelude.{ℕ, List, codes}
use Rattle.checks.specs.Layers.{layer_of}
use Rattle.grammar.specs.declared.flaw.Flaw.{Flaw}
use Rattle.grammar.specs.declared.flaw.Flaw.TheVariants.{NoRoom, TooLong, NoToken, Unfinished, TooDeep, NotDue, UnknownName, TooManyVariables}

abbrev pub flaw_number : Flaw → ℕ
flaw_number NoRoom = 4
flaw_number TooLong = 9
flaw_number NoToken = 10
flaw_number Unfinished = 11
flaw_number TooDeep = 12
flaw_number NotDue = 13
flaw_number UnknownName = 14
flaw_number TooManyVariables = 15

abbrev pub flaw_layer : Flaw → ℕ
flaw_layer f = layer_of (flaw_number f)

abbrev pub flaw_text : Flaw → List ℕ
flaw_text NoRoom = codes "the memory for steps is too short for the text"
flaw_text TooLong = codes "the text is longer than 1,024 bytes"
flaw_text NoToken = codes "this is no mark, name, variable, space or line feed"
flaw_text Unfinished = codes "the text ends before the formula is complete"
flaw_text TooDeep = codes "a formula stands inside more than 32 others"
flaw_text NotDue = codes "another kind of token is due here, or the formula is complete"
flaw_text UnknownName = codes "the book has no predicate of this name"
flaw_text TooManyVariables = codes "there are more variables than sets"
