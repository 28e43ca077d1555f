-- What is answered, and what a buffer holds, when a table is saved.
use Rattle.std.specs.Prelude.{◌≡◌, ℕ, ◌<◌, ◌≤◌, ◌⊎◌, List, length, take, drop, codes, Some, None, Option, Ok, Err, Result}
use Rattle.words.specs.declared.rows.Rows.{Rows}
use Rattle.saving.specs.TableText.{names_line, table_text}
use Rattle.saving.specs.declared.unsaved.Unsaved.{Unsaved}
use Rattle.saving.specs.declared.unsaved.Unsaved.TheVariants.{TooManySets, NoBuffer}

-- the text of rows
abbrev pub rows_text : Rows → List ℕ
rows_text rows = table_text rows.places rows.states rows.cells.now

-- a text of k bytes stands at the front of the buffer now, and the bytes behind it are as they were
abbrev pub IsWritten : List ℕ → List ℕ → List ℕ → ℕ → Type 0
IsWritten text buffer buffer' k = (k ≡ length text) × (length buffer' ≡ length buffer) × (take k buffer' ≡ text) × (drop k buffer' ≡ drop k buffer)

-- The answer of `save_rows`. The length of the text, which stands at the front of the buffer now, and the bytes behind it are as
-- they were. Or a refusal, and the buffer is as it was: there are more than four sets, or else the text is longer than the buffer.
abbrev pub Saved : Rows → List ℕ → List ℕ → Result ℕ Unsaved → Type 0
Saved rows buffer buffer' (Ok k) =
    (rows.places ≤ 4) × IsWritten (rows_text rows) buffer buffer' k
Saved rows buffer buffer' (Err TooManySets) = (4 < rows.places) × (buffer' ≡ buffer)
Saved rows buffer buffer' (Err NoBuffer) = (rows.places ≤ 4) × (length buffer < length (rows_text rows)) × (buffer' ≡ buffer)

-- A text is written, and its length answered; or none, the text is longer than the buffer, and the buffer is as it was.
abbrev pub WritesText : List ℕ → List ℕ → List ℕ → Option ℕ → Type 0
WritesText text buffer buffer' (Some k) = IsWritten text buffer buffer' k
WritesText text buffer buffer' None = (length buffer < length text) × (buffer' ≡ buffer)

-- The same of the line of names over so many sets, which is none for more than four.
abbrev pub WritesNames : ℕ → List ℕ → List ℕ → Option ℕ → Type 0
WritesNames places buffer buffer' (Some k) = (places ≤ 4) × IsWritten (names_line places) buffer buffer' k
WritesNames places buffer buffer' None = ((4 < places) ⊎ (length buffer < length (names_line places))) × (buffer' ≡ buffer)

-- what is printed of a refusal
abbrev pub sentence : Unsaved → List ℕ
sentence TooManySets = codes "the table is over more than four sets"
sentence NoBuffer = codes "the buffer is shorter than the text"
