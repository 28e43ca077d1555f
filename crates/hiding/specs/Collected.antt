-- The sets of states that a table can be in when the bit of one set is not known.
use Rattle.std.specs.Prelude.{ℕ, zero, suc, Bool, cond}
use Rattle.words.specs.Automata.{Moves}
use Rattle.words.specs.Described.{described}
use Rattle.words.specs.Hiding.{turned}
use Rattle.hiding.specs.declared.state_set.StateSet.{StateSet}
use Rattle.hiding.specs.declared.hidden_rows.HiddenRows.{HiddenRows}
use Rattle.hiding.specs.declared.subsets.Readings.{Readings}
use Rattle.hiding.specs.StateSets.{no_states, is_in, inserted, meeting}

-- an act for each number below k that passes a test, lowest first
unfoldable pub walked : {S : Type 0} → (ℕ → S → S) → (ℕ → Bool) → ℕ → S → S
walked act passes zero s = s
walked act passes (suc k) s = cond (passes k) (act k (walked act passes k s)) (walked act passes k s)

-- the next states of q by two columns, put into a set
abbrev pub followed : Readings → ℕ → StateSet → StateSet
followed r q s = inserted (inserted s ((described r.rows).step q r.off)) ((described r.rows).step q r.on)

-- the next states of all states of a set by two columns
abbrev pub gathered : Readings → StateSet → StateSet
gathered r s = walked (followed r) (is_in s) 512 no_states

-- each column is read with either bit of the hidden set
abbrev pub read_by : HiddenRows → ℕ → Readings
read_by h c = record { rows = h.rows; off = turned h.hidden.set 0 c; on = turned h.hidden.set 1 c }

-- a set accepts when it meets the closing one
abbrev pub collected : HiddenRows → StateSet → Moves StateSet
collected h closing = record {
  start = inserted no_states 0;
  next = λ s c. gathered (read_by h c) s;
  final = λ s. meeting s closing 512;
}
