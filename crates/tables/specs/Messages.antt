-- What is said of an exploration that ended without a table.
use Rattle.std.specs.Prelude.{ℕ, List, codes}
use Rattle.tables.specs.declared.exploration.Unexplored.{Unexplored}
use Rattle.tables.specs.declared.exploration.Unexplored.TheVariants.{NoRoom, TooMany}

abbrev pub unexplored_text : Unexplored → List ℕ
unexplored_text NoRoom = codes "the memory or the limits leave no room to explore"
unexplored_text TooMany = codes "more states than the budget are reached"
