-- Automata that read columns, as total functions on numbers.
use Rattle.std.specs.Prelude.{◌≡◌, ℕ, Bool, List, [], ◌∷◌}

-- A column over `places` sets leads from state to state; `states` says how many states there are, 0 and on.
pub record Automaton : Type 0 where
  pub places : ℕ
  pub states : ℕ
  pub start : ℕ
  pub step : ℕ → ℕ → ℕ
  pub accepts : ℕ → Bool

-- An automaton over states of any type: where it starts, where a column leads, and which states accept.
pub record Moves (S : Type 0) : Type 0 where
  pub start : S
  pub next : S → ℕ → S
  pub final : S → Bool

-- the state that the run over a word comes to, from state s
abbrev pub run : {S : Type 0} → (S → ℕ → S) → S → List ℕ → S
run step s [] = s
run step s (c ∷ w) = run step (step s c) w

-- whether the run over a word, from the start, ends in an accepting state
abbrev pub accepted : Automaton → List ℕ → Bool
accepted a w = a.accepts (run a.step a.start w)

-- the state to which a word leads, whether it accepts, and whether two words lead to the same state
abbrev pub reach : {S : Type 0} → Moves S → List ℕ → S
reach m w = run m.next m.start w

abbrev pub language : {S : Type 0} → Moves S → List ℕ → Bool
language m w = m.final (reach m w)

abbrev pub SameReach : {S : Type 0} → Moves S → List ℕ → List ℕ → Type 0
SameReach m u w = reach m u ≡ reach m w

-- two automata side by side, with one answer from their two
abbrev pub side_by_side : Automaton → Automaton → (Bool → Bool → Bool) → Moves (ℕ × ℕ)
side_by_side a b joins = record {
  start = (a.start, b.start);
  next = λ s c. (a.step s.0 c, b.step s.1 c);
  final = λ s. joins (a.accepts s.0) (b.accepts s.1);
}
