-- Sets of states below 512: state q is bit q % 64 of word q / 64.
use Rattle.std.specs.Prelude.{◌≡◌, ℕ, zero, suc, ◌+◌, ◌/◌, ◌%◌, ◌^◌, ◌<◌, Bool, false, cond, ◌&&◌, ◌||◌, length, replicate, ◌==◌, bit_or, nat_lt, slice_index, slice_set}
use Rattle.words.specs.Sets.{bit, Member}
use Rattle.hiding.specs.declared.state_set.StateSet.{StateSet}

-- the word that holds the bit of a state
abbrev pub word_for : StateSet → ℕ → ℕ
word_for s q = slice_index s.words (q / 64)

-- a set as the code can hold it: eight words of 64 bits
pub record Whole (s : StateSet) : Type 0 where
  pub eight : length s.words ≡ 8
  pub fits : (k : ℕ) → slice_index s.words k < 2 ^ 64

-- state q is in the set
abbrev pub Has : StateSet → ℕ → Type 0
Has s q = (q < 512) × Member (q % 64) (word_for s q)

-- some state is in both
abbrev pub Meet : StateSet → StateSet → Type 0
Meet s t = (q : ℕ) × Has s q × Has t q

-- whether bit b of a word is 1
abbrev pub has_bit : ℕ → ℕ → Bool
has_bit word b = bit b word == 1

-- the same by a test, and for the states below k
abbrev pub is_in : StateSet → ℕ → Bool
is_in s q = nat_lt q 512 && has_bit (word_for s q) (q % 64)

unfoldable pub meeting : StateSet → StateSet → ℕ → Bool
meeting s t zero = false
meeting s t (suc k) = (is_in s k && is_in t k) || meeting s t k

abbrev pub no_states : StateSet
no_states = record { words = replicate 8 0 }

-- one state more; from 512 on there is no such state
abbrev pub inserted : StateSet → ℕ → StateSet
inserted s q = cond (nat_lt q 512) (record { words = slice_set s.words (q / 64) (bit_or (word_for s q) (2 ^ (q % 64))) }) s

-- how many of the states below k are not in the set
unfoldable pub missing : ℕ → StateSet → ℕ
missing zero s = 0
missing (suc k) s = missing k s + cond (is_in s k) 0 1
