-- The explored automaton of a table with a hidden set.
use Rattle.words.specs.Automata.{Moves}
use Rattle.hiding.specs.declared.state_set.StateSet.{StateSet}
use Rattle.hiding.specs.declared.subsets.Subsets.{Subsets}
use Rattle.hiding.specs.Collected.{collected}

abbrev pub subsets : Subsets → Moves StateSet
subsets k = collected k.table k.closing
