-- The automaton that rows describe, and when rows are a table.
use Rattle.std.specs.Prelude.{ℕ, Bool, List}
use Rattle.words.specs.Automata.{Automaton}
use Rattle.words.specs.Rows.{written}
use Rattle.words.specs.TableOf.{TableOf, answers}
use Rattle.words.specs.declared.rows.Rows.{Rows}

abbrev pub described : Rows → Automaton
described r = written r.places r.states r.cells.now

-- whether the rows accept a word
abbrev pub language_of : Rows → List ℕ → Bool
language_of r w = answers r.places r.states r.cells.now w

-- the rows are the table of the words that they accept
abbrev pub IsTable : Rows → Type 0
IsTable r = TableOf r.places (language_of r) r.cells.now r.states
