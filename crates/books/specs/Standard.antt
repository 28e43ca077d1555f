-- The standard book: six predicates on finite sets, each with its automaton written out in rows (a row for each state:
-- the next states in the order of columns, then 1 where the state accepts).
use Rattle.std.specs.Prelude.{ℕ, List, [], ◌∷◌, codes, Option, slice_index, slice_index_or}
use Rattle.words.specs.Sets.{Empty}
use Rattle.words.specs.Relations.{Within, Singleton, Successor, Less, Sum, Unary, Binary, Ternary}
use Rattle.words.specs.Automata.{Automaton}
use Rattle.words.specs.Rows.{written}
use Rattle.books.specs.Names.{place_of}

-- so far each member of the first was in the second; one was not
abbrev pub sub_rows : List ℕ
sub_rows =
    0 ∷ 1 ∷ 0 ∷ 0 ∷ 1 ∷
    1 ∷ 1 ∷ 1 ∷ 1 ∷ 0 ∷ []

-- no member; one; more
abbrev pub one_rows : List ℕ
one_rows =
    0 ∷ 1 ∷ 0 ∷
    1 ∷ 2 ∷ 1 ∷
    2 ∷ 2 ∷ 0 ∷ []

-- nothing; p just now, and the second is due; both; too much or too late
abbrev pub suc_rows : List ℕ
suc_rows =
    0 ∷ 1 ∷ 3 ∷ 3 ∷ 0 ∷
    3 ∷ 3 ∷ 2 ∷ 3 ∷ 0 ∷
    2 ∷ 3 ∷ 3 ∷ 3 ∷ 1 ∷
    3 ∷ 3 ∷ 3 ∷ 3 ∷ 0 ∷ []

-- nothing; p was there; q too; too much or too early
abbrev pub les_rows : List ℕ
les_rows =
    0 ∷ 1 ∷ 3 ∷ 3 ∷ 0 ∷
    1 ∷ 3 ∷ 2 ∷ 3 ∷ 0 ∷
    2 ∷ 3 ∷ 3 ∷ 3 ∷ 1 ∷
    3 ∷ 3 ∷ 3 ∷ 3 ∷ 0 ∷ []

-- no carry; a carry of one; the third was wrong
abbrev pub sum_rows : List ℕ
sum_rows =
    0 ∷ 2 ∷ 2 ∷ 1 ∷ 2 ∷ 0 ∷ 0 ∷ 2 ∷ 1 ∷
    2 ∷ 1 ∷ 1 ∷ 2 ∷ 0 ∷ 2 ∷ 2 ∷ 1 ∷ 0 ∷
    2 ∷ 2 ∷ 2 ∷ 2 ∷ 2 ∷ 2 ∷ 2 ∷ 2 ∷ 0 ∷ []

-- no member; some
abbrev pub emp_rows : List ℕ
emp_rows =
    0 ∷ 1 ∷ 1 ∷
    1 ∷ 1 ∷ 0 ∷ []

-- By number: sub, one, suc, les, sum, emp. From 6 on there is no predicate.
abbrev pub count : ℕ
count = 6

abbrev pub places : ℕ → ℕ
places p = slice_index (2 ∷ 1 ∷ 2 ∷ 2 ∷ 3 ∷ 1 ∷ []) p

abbrev pub states : ℕ → ℕ
states p = slice_index (2 ∷ 3 ∷ 4 ∷ 4 ∷ 3 ∷ 2 ∷ []) p

abbrev pub rows : ℕ → List ℕ
rows p = slice_index_or (sub_rows ∷ one_rows ∷ suc_rows ∷ les_rows ∷ sum_rows ∷ emp_rows ∷ []) p []

abbrev pub automaton : ℕ → Automaton
automaton p = written (places p) (states p) (rows p)

-- what each predicate means
abbrev pub holds : ℕ → List ℕ → Type 0
holds p =
    slice_index_or (Binary Within ∷ Unary Singleton ∷ Binary Successor ∷ Binary Less ∷ Ternary Sum ∷ Unary Empty ∷ []) p (λ _. ⊥)

-- the names, by number: sub, one, suc, les, sum, emp
abbrev pub names : List (List ℕ)
names = codes "sub" ∷ codes "one" ∷ codes "suc" ∷ codes "les" ∷ codes "sum" ∷ codes "emp" ∷ []

abbrev pub numbered : List ℕ → Option ℕ
numbered name = place_of name names
