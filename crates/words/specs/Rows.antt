-- An automaton written out as one row for each state: the next states, one for each column in order, and then a mark,
-- 1 for an accepting state and 0 for another. Row s begins at s * (2^places + 1).
use Rattle.std.specs.Prelude.{ℕ, ◌+◌, ◌*◌, ◌^◌, cond, ◌&&◌, List, ◌==◌, nat_lt, slice_index}
use Rattle.words.specs.Automata.{Automaton}

-- how many numbers a row has
abbrev pub width : ℕ → ℕ
width places = 2 ^ places + 1

-- the state to which a column leads, and the mark of a state
abbrev pub next_of : ℕ → List ℕ → ℕ → ℕ → ℕ
next_of places rows s c = slice_index rows (s * width places + c)

abbrev pub mark_of : ℕ → List ℕ → ℕ → ℕ
mark_of places rows s = slice_index rows (s * width places + 2 ^ places)

-- the automaton that the rows describe, with 0 as its start; outside of the rows every answer is 0 or no
abbrev pub written : ℕ → ℕ → List ℕ → Automaton
written places states rows = record {
  places = places;
  states = states;
  start = 0;
  step = λ s c. cond (nat_lt s states && nat_lt c (2 ^ places)) (next_of places rows s c) 0;
  accepts = λ s. nat_lt s states && (mark_of places rows s == 1);
}
