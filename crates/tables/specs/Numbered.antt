-- Numbers for classes: contracts of the functions within merging. A reader of the statement can pass over this file.
use Rattle.std.specs.Prelude.{◌≡◌, ℕ, ◌*◌, ◌^◌, ◌<◌, ◌≤◌, cond, List, slice_index}
use Rattle.words.specs.Automata.{Automaton}
use Rattle.words.specs.Rows.{width, next_of, mark_of}

-- The classes among the states below k were numbered by their lowest states, in order: there are `kept` of them.
pub record Numbered (class : ℕ → ℕ) (k : ℕ) (number leader : ℕ → ℕ) (kept : ℕ) : Type 0 where
  pub few : kept ≤ k
  pub number_kept : (s : ℕ) → s < k → number s < kept
  pub leads : (s : ℕ) → s < k → leader (number s) ≡ class s
  pub leader_below : (j : ℕ) → j < kept → leader j < k
  pub leader_number : (j : ℕ) → j < kept → number (leader j) ≡ j
  pub rising : (i j : ℕ) → i < j → j < kept → leader i < leader j

-- the row of a merged state was written, from the lowest state of its class and by the classes' numbers
pub record WroteRow (a : Automaton) (n : ℕ) (number : ℕ → ℕ) (low : ℕ) (row : List ℕ) : Type 0 where
  pub next : (c : ℕ) → c < 2 ^ n → slice_index row c ≡ number (a.step low c)
  pub mark : slice_index row (2 ^ n) ≡ cond (a.accepts low) 1 0

-- The first k merged rows were written: each from the lowest state of its class, by the classes' numbers. Nothing else was changed.
pub record Wrote (a : Automaton) (n : ℕ) (number leader : ℕ → ℕ) (k : ℕ) (out out' : List ℕ) : Type 0 where
  pub next : (j c : ℕ) → j < k → c < 2 ^ n → next_of n out' j c ≡ number (a.step (leader j) c)
  pub mark : (j : ℕ) → j < k → mark_of n out' j ≡ cond (a.accepts (leader j)) 1 0
  pub behind : (i : ℕ) → k * width n ≤ i → slice_index out' i ≡ slice_index out i
