-- The look past a word's end: the states from which columns with no bit but the hidden one lead to acceptance.
use Rattle.std.specs.Prelude.{◌≡◌, ℕ, ◌+◌, ◌^◌, ◌<◌, ◌≤◌, Bool, true, false, cond, ◌⊎◌, List}
use Rattle.words.specs.Words.{Columns}
use Rattle.words.specs.Automata.{Automaton, run}
use Rattle.words.specs.Described.{described}
use Rattle.words.specs.Hiding.{turned, OnlyBit}
use Rattle.hiding.specs.declared.state_set.StateSet.{StateSet}
use Rattle.hiding.specs.declared.hidden_rows.HiddenRows.{HiddenRows}
use Rattle.hiding.specs.StateSets.{Has, Whole, missing}

-- the automaton of the table
abbrev pub automaton : HiddenRows → Automaton
automaton h = described h.rows

-- some columns with no bit but the hidden one lead from state q to acceptance
abbrev pub Closes : HiddenRows → ℕ → Type 0
Closes h q =
    (v : List ℕ) × Columns h.rows.places v × OnlyBit h.hidden.set v × ((automaton h).accepts (run (automaton h).step q v) ≡ true)

-- every next state is a state
abbrev pub Inside : HiddenRows → Type 0
Inside h = (q c : ℕ) → q < h.rows.states → c < 2 ^ h.rows.places → (automaton h).step q c < h.rows.states

-- The set has the states that close.
pub record Closing (h : HiddenRows) (s : StateSet) : Type 0 where
  pub closes : (q : ℕ) → Has s q → (q < h.rows.states) × Closes h q
  pub every : Inside h → (q : ℕ) → q < h.rows.states → Closes h q → Has s q

-- ---- contracts of the functions within: a reader of the statement can pass over what follows

-- every state of the set closes, and the accepting states are in it
pub record Sound (h : HiddenRows) (s : StateSet) : Type 0 where
  pub whole : Whole s
  pub closes : (q : ℕ) → Has s q → (q < h.rows.states) × Closes h q
  pub marked : (q : ℕ) → q < h.rows.states → (automaton h).accepts q ≡ true → Has s q

-- the set has the accepting states below k
pub record Marked (h : HiddenRows) (k : ℕ) (s : StateSet) : Type 0 where
  pub whole : Whole s
  pub only : (q : ℕ) → Has s q → (q < k) × ((automaton h).accepts q ≡ true)
  pub every : (q : ℕ) → q < k → (automaton h).accepts q ≡ true → Has s q

-- a column with no bit, or with the hidden one alone, leads from q into the set
abbrev pub Enters : HiddenRows → StateSet → ℕ → Type 0
Enters h s q = Has s ((automaton h).step q 0) ⊎ Has s ((automaton h).step q (turned h.hidden.set 1 0))

-- The states below k were looked at, and those that enter the set were put into it. `found` tells whether there was one:
-- then fewer states are missing, and else none below k enters the set from outside.
pub record Widens (h : HiddenRows) (s : StateSet) (k : ℕ) (s' : StateSet) (found : Bool) : Type 0 where
  pub sound : Sound h s'
  pub settled : found ≡ false → (q : ℕ) → q < k → Enters h s' q → Has s' q
  pub fewer : missing h.rows.states s' + cond found 1 0 ≤ missing h.rows.states s
