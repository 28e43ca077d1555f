-- What a claim means in WS1S. Positions range over the natural numbers, and sets over all finite sets of them.
use Rattle.std.specs.Prelude.{◌≡◌, ℕ, ◌^◌, cond, ◌↔◌, ◌⊎◌, List, [], map, All}
use Rattle.words.specs.Words.{Columns, coded}
use Rattle.words.specs.Formulas.{instead, Satisfies}
use Rattle.grammar.specs.declared.step.Spot.{Spot}
use Rattle.grammar.specs.Claims.{Claim, atom, denial, and, or, implies, some, every, is_position, free}
use Rattle.reading.specs.Formulas.{whole}

-- Each letter stands for a number: a lower-case letter for a position, and an upper-case letter for a finite set, which is held as
-- one number (bit p says whether position p is a member), so that the natural numbers are exactly the finite sets.

-- The set that a variable gives to a predicate: the set itself, or the position as the only member. The number 2^p is the set {p}.
abbrev pub as_set : (ℕ → ℕ) → Spot → ℕ
as_set v x = cond (is_position x) (2 ^ v x.letter) (v x.letter)

-- Whether a claim is true, where `holds` is what the book's predicates mean, and v is what the letters stand for. A quantifier's letter
-- stands for each number in turn, which is each position, or each finite set.
abbrev pub Meaning : (ℕ → List ℕ → Type 0) → Claim → (ℕ → ℕ) → Type 0
Meaning holds (atom at p spots) v = holds p (map (as_set v) spots)
Meaning holds (denial at f) v = Meaning holds f v → ⊥
Meaning holds (and at f g) v = Meaning holds f v × Meaning holds g v
Meaning holds (or at f g) v = Meaning holds f v ⊎ Meaning holds g v
Meaning holds (implies at f g) v = Meaning holds f v → Meaning holds g v
Meaning holds (some at x f) v = (k : ℕ) × Meaning holds f (instead x.letter k v)
Meaning holds (every at x f) v = (k : ℕ) → Meaning holds f (instead x.letter k v)

-- the variables are the sets that a word codes: a set letter is its set, and the set of a position has this position as its only member
abbrev pub Codes : List Spot → (ℕ → ℕ) → List ℕ → Type 0
Codes variables v w = All (λ x. coded x.set w ≡ as_set v x) variables

-- the sets that a word codes satisfy a claim: they are what its free variables stand for, and the claim is true of these
abbrev pub Satisfied : (ℕ → List ℕ → Type 0) → Claim → List ℕ → Type 0
Satisfied holds f w = (v : ℕ → ℕ) × Codes (free [] f) v w × Meaning holds f v

-- over n sets, the words that satisfy the formula that is built of a claim are those that satisfy the claim
abbrev pub WholeMeans : ℕ → (ℕ → List ℕ → Type 0) → Claim → Type 0
WholeMeans n holds f = (w : List ℕ) → Columns n w → Satisfies holds (whole n f) w ↔ Satisfied holds f w
