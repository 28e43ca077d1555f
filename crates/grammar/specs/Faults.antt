-- The fault of a text: the first of its items that cannot stand where it does decides.
use Rattle.std.specs.Prelude.{ℕ, ◌+◌, cond, nat_lt, List, [], ◌∷◌, ◌++◌, Some, None, Option, replicate}
use Rattle.tokens.specs.declared.item.Item.{Item}
use Rattle.tokens.specs.declared.item.Sense.{Sense}
use Rattle.tokens.specs.declared.item.Sense.TheVariants.{Mark, Predicate, Unknown, Variable, Wrong}
use Rattle.tokens.specs.declared.mark.Mark.{Mark as MarkKind}
use Rattle.tokens.specs.declared.mark.Mark.TheVariants.{Not, Both, Either, Implies, Some as some-mark, Every}
use Rattle.grammar.specs.declared.flaw.Flaw.{Flaw}
use Rattle.grammar.specs.declared.flaw.Flaw.TheVariants.{NoToken, Unfinished, TooDeep, NotDue, UnknownName, TooManyVariables}
use Rattle.grammar.specs.Limits.{most_around}

-- what is due: a formula that stands inside so many others, or a variable
pub data Due : Type 0 where
  formula : ℕ → Due
  variable : Due

-- what is wrong with an item where a formula is due, inside k others: first that it is no token, then that it begins no formula,
-- then that it is nested too deeply, then that its name is unknown
abbrev pub as_formula : ℕ → Sense → Option Flaw
as_formula k Wrong = Some NoToken
as_formula k (Variable letter set) = Some NotDue
as_formula k (Mark m) = cond (nat_lt most_around k) (Some TooDeep) None
as_formula k (Predicate p places) = cond (nat_lt most_around k) (Some TooDeep) None
as_formula k Unknown = cond (nat_lt most_around k) (Some TooDeep) (Some UnknownName)

-- where a variable is due, and there are n sets
abbrev pub as_variable : ℕ → Sense → Option Flaw
as_variable n Wrong = Some NoToken
as_variable n (Variable letter set) = cond (nat_lt set n) None (Some TooManyVariables)
as_variable n (Mark m) = Some NotDue
as_variable n (Predicate p places) = Some NotDue
as_variable n Unknown = Some NotDue

-- where the formula is complete
abbrev pub as_more : Sense → Option Flaw
as_more Wrong = Some NoToken
as_more (Variable letter set) = Some NotDue
as_more (Mark m) = Some NotDue
as_more (Predicate p places) = Some NotDue
as_more Unknown = Some NotDue

abbrev pub flaw_at : ℕ → List Due → Sense → Option Flaw
flaw_at n [] s = as_more s
flaw_at n (formula k ∷ dues) s = as_formula k s
flaw_at n (variable ∷ dues) s = as_variable n s

-- the parts of a mark's formula, which stand inside one formula more
abbrev pub parts : ℕ → MarkKind → List Due
parts k Not = formula (k + 1) ∷ []
parts k Both = formula (k + 1) ∷ formula (k + 1) ∷ []
parts k Either = formula (k + 1) ∷ formula (k + 1) ∷ []
parts k Implies = formula (k + 1) ∷ formula (k + 1) ∷ []
parts k some-mark = variable ∷ formula (k + 1) ∷ []
parts k Every = variable ∷ formula (k + 1) ∷ []

-- what is due behind an item that stands right
abbrev pub opened : ℕ → Sense → List Due
opened k (Mark m) = parts k m
opened k (Predicate p places) = replicate places variable
opened k (Variable letter set) = []
opened k Unknown = []
opened k Wrong = []

abbrev pub due_after : List Due → Sense → List Due
due_after [] s = []
due_after (formula k ∷ dues) s = opened k s ++ dues
due_after (variable ∷ dues) s = dues

-- a flaw here, or else what is found later
abbrev pub or_later : Option Flaw → ℕ → Option (Flaw × ℕ) → Option (Flaw × ℕ)
or_later (Some flaw) place later = Some (flaw, place)
or_later None place later = later

-- the fault of items where these are due, in a text of so many bytes over n sets: a flaw and its place
module _ (n long : ℕ) where
  abbrev pub fault : List Due → List Item → Option (Flaw × ℕ)
  fault [] [] = None
  fault (due ∷ dues) [] = Some (Unfinished, long)
  fault dues (item ∷ items) = or_later (flaw_at n dues item.sense) item.place (fault (due_after dues item.sense) items)
