-- What a book owes: the set rule, and its answers outside of its ranges.
use Rattle.std.specs.Prelude.{◌≡◌, ℕ, ◌^◌, ◌<◌, ◌≤◌, true, false, ◌⊎◌, ◌↔◌, List}
use Rattle.words.specs.Automata.{Automaton, accepted}
use Rattle.words.specs.Words.{Columns, sets}

-- The automaton recognizes the relation: start and steps stay among its states, and it accepts the words, and only those,
-- that code sets of which the relation holds.
pub record Recognizes (a : Automaton) (holds : List ℕ → Type 0) : Type 0 where
  pub places : (1 ≤ a.places) × (a.places ≤ 4)
  pub states : (1 ≤ a.states) × (a.states ≤ 512)
  pub start : a.start < a.states
  pub step : (s c : ℕ) → s < a.states → c < 2 ^ a.places → a.step s c < a.states
  pub means : (w : List ℕ) → Columns a.places w → (accepted a w ≡ true) ↔ holds (sets a.places w)

-- What an automaton answers for a state or a column that it does not have: state 0, and not accepting.
pub record Silent (a : Automaton) : Type 0 where
  pub step : (s c : ℕ) → (a.states ≤ s) ⊎ (2 ^ a.places ≤ c) → a.step s c ≡ 0
  pub accepts : (s : ℕ) → a.states ≤ s → a.accepts s ≡ false

-- What a book answers for a predicate that it does not have.
pub record Absent (a : Automaton) : Type 0 where
  pub places : a.places ≡ 0
  pub states : a.states ≡ 0
  pub start : a.start ≡ 0

-- The rule of a book with `count` predicates, an automaton for each, and the relation that each one means.
pub record SetRule (count : ℕ) (automaton : ℕ → Automaton) (holds : ℕ → List ℕ → Type 0) : Type 0 where
  pub few : count ≤ 64
  pub recognizes : (p : ℕ) → p < count → Recognizes (automaton p) (holds p)
  pub absent : (p : ℕ) → count ≤ p → Absent (automaton p)
  pub silent : (p : ℕ) → Silent (automaton p)
