-- What exploring and merging comes to: the table of the language of a kind, with its two counts.
use Rattle.std.specs.Prelude.{◌≡◌, ℕ, ◌+◌, ◌*◌, ◌<◌, ◌≤◌, List, length, drop, Ok, Err, Result, slice_index}
use Rattle.words.specs.Automata.{Moves, SameReach, language}
use Rattle.words.specs.Rows.{width}
use Rattle.words.specs.Residuals.{SameResidual, Count, MoreThan}
use Rattle.words.specs.TableOf.{TableOf}
use Rattle.tables.specs.Room.{Room}
use Rattle.tables.specs.declared.exploration.Unexplored.{Unexplored}
use Rattle.tables.specs.declared.exploration.Unexplored.TheVariants.{NoRoom, TooMany}
use Rattle.tables.specs.declared.tabulation.Counts.{Counts}

-- outside of the numbers from `base` on, so many, nothing changed
abbrev pub Elsewhere : ℕ → ℕ → List ℕ → List ℕ → Type 0
Elsewhere base many tables tables' =
    ((i : ℕ) → i < base → slice_index tables' i ≡ slice_index tables i) × ((i : ℕ) → base + many ≤ i → slice_index tables' i ≡ slice_index tables i)

-- room to explore, and a slot for the table
abbrev pub Enough : ℕ → ℕ → ℕ → ℕ → ℕ → ℕ → ℕ → Type 0
Enough n budget records links spare tables base = Room n budget records links spare × (base + budget * width n ≤ tables)

-- The answer of `tabulate`. Met counts the words up to the state to which they lead, kept up to their residuals. Unless
-- there is no room, records, links and spare are work memory, and nothing is said of what they hold in the end.
abbrev pub Tabulates : {S : Type 0} → Moves S → ℕ → ℕ → ℕ → List S → List ℕ → List ℕ → List ℕ → List S → List ℕ → List ℕ → List ℕ → Result Counts Unexplored → Type 0
Tabulates m n budget base records links spare tables records' links' spare' tables' (Ok t) =
    Enough n budget (length records) (length links) (length spare) (length tables) base
    × (t.met ≤ budget) × (t.kept ≤ t.met)
    × Count n (SameReach m) t.met
    × TableOf n (language m) (drop base tables') t.kept
    × Count n (SameResidual n (language m)) t.kept
    × Elsewhere base (t.kept * width n) tables tables'
Tabulates m n budget base records links spare tables records' links' spare' tables' (Err TooMany) =
    Enough n budget (length records) (length links) (length spare) (length tables) base × MoreThan n (SameReach m) budget × (tables' ≡ tables)
Tabulates m n budget base records links spare tables records' links' spare' tables' (Err NoRoom) =
    (Enough n budget (length records) (length links) (length spare) (length tables) base → ⊥)
    × (records' ≡ records) × (links' ≡ links) × (spare' ≡ spare) × (tables' ≡ tables)
