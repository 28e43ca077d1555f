-- What an exploration in the work space comes to: a contract within the calls of the tray.
use Rattle.std.specs.Prelude.{◌≡◌, ℕ, ◌≤◌, Bool, List, Ok, Err, Decides, Result}
use Rattle.words.specs.Automata.{Moves, SameReach, language}
use Rattle.words.specs.Words.{Columns}
use Rattle.words.specs.Residuals.{Count, MoreThan}
use Rattle.words.specs.TableOf.{TableOf, answers}
use Rattle.words.specs.Hiding.{HidesBit, SameCollection}
use Rattle.tables.specs.declared.exploration.Unexplored.{Unexplored}
use Rattle.tables.specs.declared.exploration.Unexplored.TheVariants.{TooMany}
use Rattle.tables.specs.declared.tabulation.Counts.{Counts}

-- `fresh` begins with the table of what the kind accepts; or more states than the budget are reached
abbrev pub Aside : {S : Type 0} → Moves S → ℕ → ℕ → List ℕ → Result Counts Unexplored → Type 0
Aside m n budget fresh (Ok t) = (t.met ≤ budget) × (t.kept ≤ t.met) × Count n (SameReach m) t.met × TableOf n (language m) fresh t.kept
Aside m n budget fresh (Err why) = (why ≡ TooMany) × MoreThan n (SameReach m) budget

-- the same for a table of a tray with set i hidden, where L is what it accepts
abbrev pub HiddenAside : ℕ → ℕ → (List ℕ → Bool) → ℕ → List ℕ → Result Counts Unexplored → Type 0
HiddenAside n budget L i fresh (Ok t) =
    (t.met ≤ budget) × (t.kept ≤ t.met) × TableOf n (answers n t.kept fresh) fresh t.kept
    × Count n (SameCollection n i L) t.met
    × ((w : List ℕ) → Columns n w → Decides (answers n t.kept fresh w) (HidesBit n i L w))
HiddenAside n budget L i fresh (Err why) = (why ≡ TooMany) × MoreThan n (SameCollection n i L) budget
