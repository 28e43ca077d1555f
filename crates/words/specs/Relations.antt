-- Relations between finite sets, in plain words on their members.
use Rattle.std.specs.Prelude.{◌≡◌, ℕ, suc, ◌+◌, ◌<◌, List, [], ◌∷◌}
use Rattle.words.specs.Sets.{Member, Only, value}

-- each member of a is in b
abbrev pub Within : ℕ → ℕ → Type 0
Within a b = (p : ℕ) → Member p a → Member p b

-- a has exactly one member
abbrev pub Singleton : ℕ → Type 0
Singleton a = (p : ℕ) × Only p a

-- a is {p} and b is {p + 1}, for some p
abbrev pub Successor : ℕ → ℕ → Type 0
Successor a b = (p : ℕ) × Only p a × Only (suc p) b

-- a is {p} and b is {q}, for some p < q
abbrev pub Less : ℕ → ℕ → Type 0
Less a b = (p : ℕ) × (q : ℕ) × Only p a × Only q b × (p < q)

-- a and b together count as much as c
abbrev pub Sum : ℕ → ℕ → ℕ → Type 0
Sum a b c = value a + value b ≡ value c

-- A relation of one, two or three sets, asked of a list of sets: it holds of no list of another length.
abbrev pub Unary : (ℕ → Type 0) → List ℕ → Type 0
Unary R [] = ⊥
Unary R (a ∷ []) = R a
Unary R (a ∷ (b ∷ s)) = ⊥

abbrev pub Binary : (ℕ → ℕ → Type 0) → List ℕ → Type 0
Binary R [] = ⊥
Binary R (a ∷ s) = Unary (R a) s

abbrev pub Ternary : (ℕ → ℕ → ℕ → Type 0) → List ℕ → Type 0
Ternary R [] = ⊥
Ternary R (a ∷ s) = Binary (R a) s
