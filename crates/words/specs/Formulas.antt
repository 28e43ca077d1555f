-- Formulas over finite sets, and when a choice of sets makes one true.
use Rattle.std.specs.Prelude.{ℕ, ◌+◌, ◌*◌, ◌<◌, Bool, cond, ◌⊎◌, List, [], ◌∷◌, map, length, Decides, ◌==◌, slice_index}
use Rattle.words.specs.Sets.{bit}
use Rattle.words.specs.Words.{Columns, coded}
use Rattle.words.specs.Relations.{Singleton}

pub data Formula : Type 0 where
  -- predicate p of a book, on the listed sets in their order; a set may be listed again
  placed : ℕ → List ℕ → Formula
  -- set i has exactly one member
  single : ℕ → Formula
  negation : Formula → Formula
  both : Formula → Formula → Formula
  either : Formula → Formula → Formula
  -- some finite set in place of set i makes it true
  hidden : ℕ → Formula → Formula

-- a choice of sets with s in place of set i
abbrev pub instead : ℕ → ℕ → (ℕ → ℕ) → ℕ → ℕ
instead i s choice j = cond (j == i) s (choice j)

-- whether a choice of sets makes a formula true, where `holds` is what the book's predicates mean
abbrev pub Truth : (ℕ → List ℕ → Type 0) → Formula → (ℕ → ℕ) → Type 0
Truth holds (placed p places) choice = holds p (map choice places)
Truth holds (single i) choice = Singleton (choice i)
Truth holds (negation f) choice = Truth holds f choice → ⊥
Truth holds (both f g) choice = Truth holds f choice × Truth holds g choice
Truth holds (either f g) choice = Truth holds f choice ⊎ Truth holds g choice
Truth holds (hidden i f) choice = (s : ℕ) × Truth holds f (instead i s choice)

-- every set that the formula names is below n
abbrev pub Names : ℕ → Formula → Type 0
Names n (placed p places) = (j : ℕ) → j < length places → slice_index places j < n
Names n (single i) = i < n
Names n (negation f) = Names n f
Names n (both f g) = Names n f × Names n g
Names n (either f g) = Names n f × Names n g
Names n (hidden i f) = (i < n) × Names n f

-- a word satisfies a formula when the sets that it codes do
abbrev pub Satisfies : (ℕ → List ℕ → Type 0) → Formula → List ℕ → Type 0
Satisfies holds f w = Truth holds f (λ i. coded i w)

-- the place column that a column gives to listed sets: its bit j is the bit of the j-th of them
abbrev pub through : List ℕ → ℕ → ℕ
through [] c = 0
through (i ∷ places) c = bit i c + 2 * through places c

-- the language of a test of words is the formula's: over n sets it holds of the words that satisfy the formula
abbrev pub Tells : ℕ → (ℕ → List ℕ → Type 0) → Formula → (List ℕ → Bool) → Type 0
Tells n holds f L = (w : List ℕ) → Columns n w → Decides (L w) (Satisfies holds f w)
