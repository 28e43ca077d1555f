-- What a line of recordings is read as, and why one is not read.
use Rattle.std.specs.Prelude.{◌≡◌, ℕ, ◌<◌, ◌^◌, ◌⊎◌, List, [], ◌∷◌, ◌++◌, map, codes, All, IfErr, Result, ◌==◌, ◌≢◌}
use Rattle.std.specs.List.{slice_split}
use Rattle.std.specs.Result.{OkIff}
use Rattle.std.specs.Str.Parse.{IsNumeral, digits_value, without_leading_plus}
use Rattle.trial.specs.declared.recording.Board.{Board}
use Rattle.trial.specs.declared.recording.Unread.{Unread}
use Rattle.trial.specs.declared.recording.Unread.TheVariants.{NoBoard, NoColumns, NoMemory}
use Rattle.trial.specs.Boards.{name_of}

-- a line is a board's name, a space, and the text of the columns
abbrev pub IsLine : Board → List ℕ → List ℕ → Type 0
IsLine board text line = line ≡ name_of board ++ 32 ∷ text

-- the parts of a text, which stand between commas; the number that a part is, where it is one up to 255
abbrev pub parts : List ℕ → List (List ℕ)
parts text = slice_split (λ b. b == 44) text

abbrev pub column_of : List ℕ → ℕ
column_of part = digits_value 10 (without_leading_plus part)

abbrev pub IsColumn : List ℕ → Type 0
IsColumn part = IsNumeral 10 (without_leading_plus part) × (column_of part < 2 ^ 8)

-- what a part is read as
abbrev pub IsRead : List ℕ → Result ℕ Unread → Type 0
IsRead part r = OkIff r (IsColumn part) (column_of part) × IfErr r (λ e. e ≡ NoColumns)

-- the text lists the columns of the word: `.` lists none, and otherwise each part is a column
abbrev pub Lists : List ℕ → List ℕ → Type 0
Lists text word = ((text ≡ codes ".") × (word ≡ [])) ⊎ (All IsColumn (parts text) × (word ≡ map column_of (parts text)))

-- Why a text is not read as columns. It is never for a board's name, and for memory only where it is not `.`, which needs none.
abbrev pub IsUnlisted : List ℕ → Unread → Type 0
IsUnlisted text NoBoard = ⊥
IsUnlisted text NoColumns = (text ≢ codes ".") × (All IsColumn (parts text) → ⊥)
IsUnlisted text NoMemory = text ≢ codes "."

-- why a line is not read
abbrev pub IsUnread : List ℕ → Unread → Type 0
IsUnread line NoBoard = (board : Board) (text : List ℕ) → IsLine board text line → ⊥
IsUnread line NoColumns = (board : Board) × (text : List ℕ) × IsLine board text line × IsUnlisted text NoColumns
IsUnread line NoMemory = (board : Board) × (text : List ℕ) × IsLine board text line × IsUnlisted text NoMemory
