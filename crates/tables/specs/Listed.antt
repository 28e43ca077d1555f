-- The automaton that rows describe, as a kind of state.
use Rattle.std.specs.Prelude.{ℕ}
use Rattle.words.specs.Automata.{Moves}
use Rattle.words.specs.Described.{described}
use Rattle.tables.specs.declared.listed.Listed.{Listed}

abbrev pub listed : Listed → Moves ℕ
listed l = record {
  start = 0;
  next = (described l.rows).step;
  final = (described l.rows).accepts;
}
