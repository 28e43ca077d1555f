-- What the functions over a list of items answer: the item that is there, or the fault of all that is due.
use Rattle.std.specs.Prelude.{◌≡◌, ℕ, ◌+◌, ◌-◌, ◌<◌, ◌≤◌, List, [], ◌∷◌, ◌++◌, drop, take, length, map, All, Some, Ok, Err, Result, replicate}
use Rattle.tokens.specs.declared.item.Item.{Item}
use Rattle.tokens.specs.declared.item.Sense.{Sense}
use Rattle.tokens.specs.declared.item.Sense.TheVariants.{Mark, Predicate}
use Rattle.tokens.specs.declared.mark.Mark.{Mark as MarkKind}
use Rattle.tokens.specs.declared.mark.Mark.TheVariants.{Not, Both, Either, Implies, Some as some-mark, Every}
use Rattle.grammar.specs.declared.flaw.Flaw.TheVariants.{Unfinished}
use Rattle.grammar.specs.declared.flaw.Flawed.{Flawed}
use Rattle.grammar.specs.declared.step.Spot.{Spot}
use Rattle.grammar.specs.declared.source.Connective.{Connective}
use Rattle.grammar.specs.declared.source.Connective.TheVariants.{Both as both-parts, Either as either-part, Implies as implied-part}
use Rattle.grammar.specs.declared.source.Quantifier.{Quantifier}
use Rattle.grammar.specs.declared.source.Quantifier.TheVariants.{Some as for-some, Every as for-every}
use Rattle.grammar.specs.declared.source.Opening.{Opening}
use Rattle.grammar.specs.declared.source.Opening.TheVariants.{Denial, Connective as connective, Quantifier as quantifier, Atom}
use Rattle.grammar.specs.declared.source.Opened.{Opened}
use Rattle.grammar.specs.declared.source.Source.{Source}
use Rattle.grammar.specs.Limits.{most_open}
use Rattle.grammar.specs.Claims.{variable_item}
use Rattle.grammar.specs.Faults.{Due, formula, variable, fault}

-- what is left of the items from here on
abbrev pub left_of : Source → ℕ → List Item
left_of s at = drop at s.items.now

-- with these due from here on, and then anything else, the fault of what is left is this one
abbrev pub Faulty : Source → ℕ → List Due → Flawed → Type 0
Faulty s at due e = (dues : List Due) → fault s.sets s.end (due ++ dues) (left_of s at) ≡ Some (e.flaw, e.place)

abbrev pub FindsItem : Source → ℕ → Result Item Flawed → Type 0
FindsItem s at (Ok item) = (at < length s.items.now) × (left_of s at ≡ item ∷ left_of s (at + 1))
FindsItem s at (Err e) = (left_of s at ≡ []) × (e.flaw ≡ Unfinished) × (e.place ≡ s.end)

abbrev pub FindsVariable : Source → ℕ → Result Spot Flawed → Type 0
FindsVariable s at (Ok x) = (at < length s.items.now) × (left_of s at ≡ variable_item x ∷ left_of s (at + 1)) × (x.set < s.sets)
FindsVariable s at (Err e) = Faulty s at (variable ∷ []) e

abbrev pub FindsVariables : Source → ℕ → ℕ → Result (List Spot) Flawed → Type 0
FindsVariables s at places (Ok spots) =
    (length spots ≡ 4) × (at + places ≤ length s.items.now)
    × (left_of s at ≡ map variable_item (take places spots) ++ left_of s (at + places)) × All (λ x. x.set < s.sets) (take places spots)
FindsVariables s at places (Err e) = Faulty s at (replicate places variable) e

-- the sense of the item that opens a formula
abbrev pub mark_of_connective : Connective → MarkKind
mark_of_connective both-parts = Both
mark_of_connective either-part = Either
mark_of_connective implied-part = Implies

abbrev pub mark_of_quantifier : Quantifier → MarkKind
mark_of_quantifier for-some = some-mark
mark_of_quantifier for-every = Every

abbrev pub sense_of_opening : Opening → Sense
sense_of_opening Denial = Mark Not
sense_of_opening (connective c) = Mark (mark_of_connective c)
sense_of_opening (quantifier q) = Mark (mark_of_quantifier q)
sense_of_opening (Atom number places) = Predicate number places

abbrev pub opened_item : Opened → Item
opened_item o = record { place = o.place; sense = sense_of_opening o.opening }

abbrev pub Opens : Source → ℕ → ℕ → Result Opened Flawed → Type 0
Opens s at left (Ok o) = (at < length s.items.now) × (1 ≤ left) × (left_of s at ≡ opened_item o ∷ left_of s (at + 1))
Opens s at left (Err e) = Faulty s at (formula (most_open - left) ∷ []) e

abbrev pub Ends : Source → ℕ → Result (Unit {0}) Flawed → Type 0
Ends s at (Ok _) = left_of s at ≡ []
Ends s at (Err e) = fault s.sets s.end [] (left_of s at) ≡ Some (e.flaw, e.place)

-- no predicate has more than four places
abbrev pub FewPlaces : List Item → Type 0
FewPlaces items = (k p places : ℕ) → (at : ℕ) → (rest : List Item) → drop k items ≡ record { place = at; sense = Predicate p places } ∷ rest → places ≤ 4
