-- What is printed of a refusal.
use Rattle.std.specs.Prelude.{ℕ, List, codes}
use Rattle.tray.specs.declared.refusal.Refusal.{Refusal}
use Rattle.tray.specs.declared.refusal.Refusal.TheVariants.{WrongSets, WrongBudget, WrongDepth, NoMemory, NoPredicate, WrongPlaces, NoSet, NoBuffer, TooManySets, Full, TooFewTables, TooManyStates}

abbrev pub refusal_text : Refusal → List ℕ
refusal_text WrongSets = codes "the number of sets is not from 1 to 8"
refusal_text WrongBudget = codes "the budget is not from 1 to 512"
refusal_text WrongDepth = codes "the depth is not from 1 to 16"
refusal_text NoMemory = codes "memory that the call was given is too short"
refusal_text NoPredicate = codes "the book lacks the predicate"
refusal_text WrongPlaces = codes "the number of sets differs from the predicate's places"
refusal_text NoSet = codes "a set is not below the number of sets"
refusal_text NoBuffer = codes "an output buffer is too short"
refusal_text TooManySets = codes "a table over more than four sets is not saved"
refusal_text Full = codes "the tray holds as many tables as its depth"
refusal_text TooFewTables = codes "the tray holds too few tables"
refusal_text TooManyStates = codes "more states are met than the budget"
