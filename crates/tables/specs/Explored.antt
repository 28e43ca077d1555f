-- What an exploration finds.
use Rattle.std.specs.Prelude.{◌≡◌, ℕ, ◌*◌, ◌^◌, ◌<◌, ◌≤◌, cond, List, length, drop, Ok, Err, Result, slice_index_or}
use Rattle.words.specs.Words.{Columns}
use Rattle.words.specs.Order.{Precedes, NotLater}
use Rattle.words.specs.Automata.{Moves, reach, SameReach}
use Rattle.words.specs.Rows.{width, next_of, mark_of}
use Rattle.words.specs.Links.{parent_of, column_of, trail}
use Rattle.words.specs.Residuals.{Count, MoreThan}
use Rattle.tables.specs.Room.{Room}
use Rattle.tables.specs.declared.exploration.Unexplored.{Unexplored}
use Rattle.tables.specs.declared.exploration.Unexplored.TheVariants.{NoRoom, TooMany}

-- record j, and its word through its parents
abbrev pub record_of : {S : Type 0} → Moves S → List S → ℕ → S
record_of m records j = slice_index_or records j m.start

abbrev pub word_of : List ℕ → ℕ → List ℕ
word_of links j = trail (parent_of links) (column_of links) j

-- The first `met` records are the states that words of columns below 2^n lead to.
pub record Explored {S : Type 0} (m : Moves S) (n met : ℕ) (records : List S) (links rows : List ℕ) : Type 0 where
  pub some : 1 ≤ met
  -- the start is first, and no two records are the same
  pub start : record_of m records 0 ≡ m.start
  pub different : (i j : ℕ) → i < met → j < met → record_of m records i ≡ record_of m records j → i ≡ j
  -- rows and marks agree with the kind
  pub next : (j c : ℕ) → j < met → c < 2 ^ n → (next_of n rows j c < met) × (record_of m records (next_of n rows j c) ≡ m.next (record_of m records j) c)
  pub mark : (j : ℕ) → j < met → mark_of n rows j ≡ cond (m.final (record_of m records j)) 1 0
  -- the word of a record leads to it, and no earlier word does; the words are in order
  pub columns : (j : ℕ) → j < met → Columns n (word_of links j)
  pub leads : (j : ℕ) → j < met → reach m (word_of links j) ≡ record_of m records j
  pub earliest : (j : ℕ) → j < met → (w : List ℕ) → Columns n w → reach m w ≡ record_of m records j → NotLater (word_of links j) w
  pub ordered : (i j : ℕ) → i < j → j < met → Precedes (word_of links i) (word_of links j)
  -- every word leads to a record
  pub every : (w : List ℕ) → Columns n w → (j : ℕ) × (j < met) × (reach m w ≡ record_of m records j)

-- What `explore` answers. Words are counted as the same when they lead to the same state.
abbrev pub Explores : {S : Type 0} → Moves S → ℕ → ℕ → List S → List ℕ → List ℕ → List S → List ℕ → List ℕ → Result ℕ Unexplored → Type 0
Explores m n budget records links rows records' links' rows' (Ok met) =
    Room n budget (length records) (length links) (length rows) × (met ≤ budget) × Explored m n met records' links' rows' × Count n (SameReach m) met
Explores m n budget records links rows records' links' rows' (Err TooMany) =
    Room n budget (length records) (length links) (length rows) × MoreThan n (SameReach m) budget
Explores m n budget records links rows records' links' rows' (Err NoRoom) =
    (Room n budget (length records) (length links) (length rows) → ⊥) × (records' ≡ records) × (links' ≡ links) × (rows' ≡ rows)

-- what lies past the rows of the budget stays
abbrev pub Past : ℕ → ℕ → List ℕ → List ℕ → Type 0
Past n budget rows rows' = drop (budget * width n) rows' ≡ drop (budget * width n) rows
