-- What a question asks: a line of names, a line with three values, and a text.
use Rattle.std.specs.Prelude.{◌≡◌, ℕ, ◌≤◌, List, [], ◌∷◌, ◌++◌, map, codes, decimal, Ok, Err, Result}
use Rattle.saving.specs.TableText.{line_of}
use Rattle.calls.specs.declared.running.Settings.{Settings}
use Rattle.deciding.specs.declared.question.Question.{Question}
use Rattle.deciding.specs.declared.question.Unread.{Unread}
use Rattle.deciding.specs.declared.question.Unread.TheVariants.{Heading, Values}

abbrev pub heading : List ℕ
heading = codes "sets budget depth" ++ 10 ∷ []

-- the input asks this of a text: the values stand one space apart, without needless zeros, and none is above 65,535
abbrev pub Asks : List ℕ → Settings → List ℕ → Type 0
Asks input s text =
    (input ≡ heading ++ (line_of (map decimal (s.sets ∷ s.budget ∷ s.depth ∷ [])) ++ text))
    × (s.sets ≤ 65535) × (s.budget ≤ 65535) × (s.depth ≤ 65535)

-- the first line is another; or it is right, and the second is not one of three values
abbrev pub OtherHeading : List ℕ → Type 0
OtherHeading input = (rest : List ℕ) → input ≡ heading ++ rest → ⊥

abbrev pub OtherValues : List ℕ → Type 0
OtherValues input = ((rest : List ℕ) × (input ≡ heading ++ rest)) × ((s : Settings) (text : List ℕ) → Asks input s text → ⊥)

abbrev pub Asked : List ℕ → Result Question Unread → Type 0
Asked input (Ok q) = Asks input q.settings q.text.now
Asked input (Err Heading) = OtherHeading input
Asked input (Err Values) = OtherValues input

-- the number of each; it is found at no place of the text, which counts as place 0
abbrev pub unread_number : Unread → ℕ
unread_number Heading = 16
unread_number Values = 17
