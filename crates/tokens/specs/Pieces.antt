-- How a text falls into pieces: runs of letters, as long as they can be, and each other byte by itself. Spaces and line feeds
-- separate, and are in no piece.
use Rattle.std.specs.Prelude.{ℕ, ◌+◌, Bool, false, cond, ◌&&◌, ◌||◌, List, [], ◌∷◌, ◌==◌}
use Rattle.std.specs.Char.{is_ascii_alphabetic}

-- a space or a line feed
abbrev pub blank : ℕ → Bool
blank b = (b == 32) || (b == 10)

-- whether a text begins with a letter
abbrev pub on_letter : List ℕ → Bool
on_letter [] = false
on_letter (b ∷ bs) = is_ascii_alphabetic b

-- a letter at the front of the run that follows it at once
abbrev pub longer : ℕ → ℕ → List (ℕ × List ℕ) → List (ℕ × List ℕ)
longer at b [] = (at, b ∷ []) ∷ []
longer at b (piece ∷ rest) = (at, b ∷ piece.1) ∷ rest

-- the pieces of a text whose first byte is at this place, each with the place where it begins
abbrev pub pieces : ℕ → List ℕ → List (ℕ × List ℕ)
pieces at [] = []
pieces at (b ∷ bs) =
    cond (blank b) (pieces (at + 1) bs)
    (cond (is_ascii_alphabetic b && on_letter bs) (longer at b (pieces (at + 1) bs)) ((at, b ∷ []) ∷ pieces (at + 1) bs))
