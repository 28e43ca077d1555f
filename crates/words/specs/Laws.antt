-- What the definitions of sets, words and their order come to, as statements. The function `laws_of_words` carries their proofs.
use Rattle.std.specs.Prelude.{◌≡◌, ℕ, ◌<◌, ◌⊎◌, ◌↔◌, List, ◌++◌, replicate, slice_index}
use Rattle.words.specs.Sets.{bit, Member, value}
use Rattle.words.specs.Words.{Columns, coded}
use Rattle.words.specs.Order.{Precedes}

-- sets with the same members are equal
abbrev pub SameMembers : Type 0
SameMembers = (s t : ℕ) → ((p : ℕ) → Member p s ↔ Member p t) → s ≡ t

-- the sum of 2^p over the members of a set is the number that holds the set
abbrev pub ValueOfSet : Type 0
ValueOfSet = (s : ℕ) → value s ≡ s

-- the members of set i are the positions whose columns have bit i on (behind the word's end stand zeros)
abbrev pub CodedMembers : Type 0
CodedMembers = (i p : ℕ) (w : List ℕ) → Member p (coded i w) ↔ (bit i (slice_index w p) ≡ 1)

-- every choice of n sets is coded by some word of columns below 2^n
abbrev pub EveryChoice : Type 0
EveryChoice = (n : ℕ) (choice : ℕ → ℕ) → (w : List ℕ) × Columns n w × ((i : ℕ) → i < n → coded i w ≡ choice i)

-- columns 0 at the end change no set
abbrev pub ZerosAtEnd : Type 0
ZerosAtEnd = (i k : ℕ) (w : List ℕ) → coded i (w ++ replicate k 0) ≡ coded i w

-- the order of words is a strict one, and of two different words one is earlier
pub record WordOrder : Type 0 where
  pub never : (w : List ℕ) → Precedes w w → ⊥
  pub chain : (u w v : List ℕ) → Precedes u w → Precedes w v → Precedes u v
  pub total : (w v : List ℕ) → (w ≡ v) ⊎ (Precedes w v ⊎ Precedes v w)
