-- What a question to a book is answered.
use Rattle.std.specs.Prelude.{ℕ, ◌^◌, ◌<◌, ◌≤◌, Bool, List, length, take, Ok, Err, Decides, Result, slice_index}
use Rattle.words.specs.Words.{Columns, sets}
use Rattle.books.specs.declared.question.NoAnswer.{NoAnswer}
use Rattle.books.specs.declared.question.NoAnswer.TheVariants.{NoPredicate, NoColumn}

-- Of a book with `count` predicates, whether predicate p holds of the sets that w codes. It is the number of places of p
-- that the columns have to fit; the first one that does not is named.
abbrev pub Answers : ℕ → ℕ → (List ℕ → Type 0) → ℕ → List ℕ → Result Bool NoAnswer → Type 0
Answers count places holds p w (Ok r) = (p < count) × Columns places w × Decides r (holds (sets places w))
Answers count places holds p w (Err NoPredicate) = count ≤ p
Answers count places holds p w (Err (NoColumn i)) =
    (p < count) × (i < length w) × (2 ^ places ≤ slice_index w i) × Columns places (take i w)
