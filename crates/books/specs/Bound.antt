-- Two books bound as one: the first's predicates keep their numbers, and the second's follow them, up to 64 in all.
use Rattle.std.specs.Prelude.{ℕ, ◌+◌, ◌-◌, false, cond, nat_lt, min, List, Option, Some, None}
use Rattle.words.specs.Automata.{Automaton}
use Rattle.books.specs.declared.bound.Source.{Source}
use Rattle.books.specs.declared.bound.Source.TheVariants.{First, Second, Neither}

-- a book has no more predicates than this
abbrev pub most : ℕ
most = 64

-- where the books have `a` and `b` predicates, the bound one has all of them that it can number
abbrev pub count_of : ℕ → ℕ → ℕ
count_of a b = min (a + b) most

-- The book that answers for number p, and the number there: below a the first; from a on the second, which counts from
-- there; and from 64 on neither.
abbrev pub source_of : ℕ → ℕ → Source
source_of a p = cond (nat_lt p a) (First p) (cond (nat_lt p most) (Second (p - a)) Neither)

-- what the first or the second book has there, or else `none`
abbrev pub from {ℓ} : {X : Type ℓ} → (ℕ → X) → (ℕ → X) → X → Source → X
from first second none (First p) = first p
from first second none (Second p) = second p
from first second none Neither = none

-- the automaton of a predicate that neither book has
abbrev pub nothing : Automaton
nothing = record { places = 0; states = 0; start = 0; step = λ s c. 0; accepts = λ s. false }

abbrev pub automaton : ℕ → (ℕ → Automaton) → (ℕ → Automaton) → ℕ → Automaton
automaton a first second p = from first second nothing (source_of a p)

abbrev pub holds : ℕ → (ℕ → List ℕ → Type 0) → (ℕ → List ℕ → Type 0) → ℕ → List ℕ → Type 0
holds a first second p = from first second (λ _. ⊥) (source_of a p)

-- the number q of the second book, behind the a predicates of the first
abbrev pub number_behind : ℕ → ℕ → Option ℕ
number_behind a q = cond (nat_lt (a + q) most) (Some (a + q)) None

-- the number that a name has, from those that it has in the two books: the first's goes before the second's
abbrev pub numbered : ℕ → Option ℕ → Option ℕ → Option ℕ
numbered a (Some p) second = Some p
numbered a None (Some q) = number_behind a q
numbered a None None = None
