-- Claims, the formulas that engineers write, and how the items of a text spell one in prefix notation.
use Rattle.std.specs.Prelude.{ℕ, ◌+◌, ◌<◌, ◌≤◌, Bool, not, List, [], ◌∷◌, ◌++◌, map, filter, length, All, ◌==◌}
use Rattle.std.specs.List.{list_any}
use Rattle.std.specs.Char.{is_ascii_lowercase}
use Rattle.tokens.specs.declared.item.Item.{Item}
use Rattle.tokens.specs.declared.item.Sense.TheVariants.{Mark, Predicate, Variable}
use Rattle.tokens.specs.declared.mark.Mark.TheVariants.{Not, Both, Either, Implies, Some, Every}
use Rattle.tokens.specs.declared.mark.Mark.{Mark as MarkKind}
use Rattle.grammar.specs.declared.step.Spot.{Spot}
use Rattle.grammar.specs.Limits.{most_around}

-- A claim. Each part has first the place in the text of its mark or name. A variable is a letter with its place and its set.
pub data Claim : Type 0 where
  -- predicate p of a book holds of the variables, in their order
  atom : (at p : ℕ) → (spots : List Spot) → Claim
  denial : (at : ℕ) → Claim → Claim
  and : (at : ℕ) → Claim → Claim → Claim
  or : (at : ℕ) → Claim → Claim → Claim
  implies : (at : ℕ) → Claim → Claim → Claim
  some : (at : ℕ) → (x : Spot) → Claim → Claim
  every : (at : ℕ) → (x : Spot) → Claim → Claim

-- the item of a mark, of a name for a predicate with so many places, and of a variable
abbrev pub mark_item : ℕ → MarkKind → Item
mark_item at m = record { place = at; sense = Mark m }

abbrev pub name_item : ℕ → ℕ → ℕ → Item
name_item at p places = record { place = at; sense = Predicate p places }

abbrev pub variable_item : Spot → Item
variable_item x = record { place = x.place; sense = Variable x.letter x.set }

-- the items that spell a claim, before others that follow it: a mark, and then its parts; or a name, and then its variables
abbrev pub spelled : Claim → List Item → List Item
spelled (atom at p spots) rest = name_item at p (length spots) ∷ (map variable_item spots ++ rest)
spelled (denial at f) rest = mark_item at Not ∷ spelled f rest
spelled (and at f g) rest = mark_item at Both ∷ spelled f (spelled g rest)
spelled (or at f g) rest = mark_item at Either ∷ spelled f (spelled g rest)
spelled (implies at f g) rest = mark_item at Implies ∷ spelled f (spelled g rest)
spelled (some at x f) rest = mark_item at Some ∷ (variable_item x ∷ spelled f rest)
spelled (every at x f) rest = mark_item at Every ∷ (variable_item x ∷ spelled f rest)

-- a claim that stands inside k others, where no part stands inside more than there may be and every variable has one of n sets
abbrev pub Fits : ℕ → ℕ → Claim → Type 0
Fits n k (atom at p spots) = (k ≤ most_around) × All (λ x. x.set < n) spots
Fits n k (denial at f) = (k ≤ most_around) × Fits n (k + 1) f
Fits n k (and at f g) = (k ≤ most_around) × Fits n (k + 1) f × Fits n (k + 1) g
Fits n k (or at f g) = (k ≤ most_around) × Fits n (k + 1) f × Fits n (k + 1) g
Fits n k (implies at f g) = (k ≤ most_around) × Fits n (k + 1) f × Fits n (k + 1) g
Fits n k (some at x f) = (k ≤ most_around) × (x.set < n) × Fits n (k + 1) f
Fits n k (every at x f) = (k ≤ most_around) × (x.set < n) × Fits n (k + 1) f

-- a lower-case letter is a position, and an upper-case one a set
abbrev pub is_position : Spot → Bool
is_position x = is_ascii_lowercase x.letter

-- whether a letter is among others
abbrev pub among : ℕ → List ℕ → Bool
among x letters = list_any (λ y. y == x) letters

-- the variables that stand free in a claim, in the order of the text, where these letters are bound
abbrev pub free : List ℕ → Claim → List Spot
free bound (atom at p spots) = filter (λ x. not (among x.letter bound)) spots
free bound (denial at f) = free bound f
free bound (and at f g) = free bound f ++ free bound g
free bound (or at f g) = free bound f ++ free bound g
free bound (implies at f g) = free bound f ++ free bound g
free bound (some at x f) = free (bound ++ x.letter ∷ []) f
free bound (every at x f) = free (bound ++ x.letter ∷ []) f
