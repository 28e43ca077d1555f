-- What a piece of a text is: a mark, a name, a variable, or no token.
use Rattle.std.specs.Prelude.{ℕ, Bool, false, cond, ◌&&◌, List, [], ◌∷◌, Some, None, Option}
use Rattle.std.specs.Char.{is_ascii_alphabetic, is_ascii_lowercase}
use Rattle.words.specs.Automata.{Automaton}
use Rattle.tokens.specs.Marks.{mark_of}
use Rattle.tokens.specs.Numbering.{set_of, noted}
use Rattle.tokens.specs.declared.mark.Mark.{Mark}
use Rattle.tokens.specs.declared.item.Sense.{Sense}
use Rattle.tokens.specs.declared.item.Sense.TheVariants.{Mark as mark, Predicate, Unknown, Variable, Wrong}

-- a name is three lower-case letters
abbrev pub is_name : List ℕ → Bool
is_name [] = false
is_name (a ∷ []) = false
is_name (a ∷ (b ∷ [])) = false
is_name (a ∷ (b ∷ (c ∷ []))) = is_ascii_lowercase a && (is_ascii_lowercase b && is_ascii_lowercase c)
is_name (a ∷ (b ∷ (c ∷ (d ∷ bs)))) = false

-- what a byte that is no letter is, by its mark
abbrev pub sense_of_mark : Option Mark → Sense
sense_of_mark (Some m) = mark m
sense_of_mark None = Wrong

-- what a name is to a book with these automata, by its number there
abbrev pub sense_of_number : (ℕ → Automaton) → Option ℕ → Sense
sense_of_number a (Some p) = Predicate p (a p).places
sense_of_number a None = Unknown

-- what a piece is to a book that numbers names, where these letters have appeared before it
module _ (numbered : List ℕ → Option ℕ) (a : ℕ → Automaton) where
  abbrev pub sense_of : List ℕ → List ℕ → Sense
  sense_of seen [] = Wrong
  sense_of seen (b ∷ []) = cond (is_ascii_alphabetic b) (Variable b (set_of b seen)) (sense_of_mark (mark_of b))
  sense_of seen (b ∷ (c ∷ bs)) = cond (is_name (b ∷ (c ∷ bs))) (sense_of_number a (numbered (b ∷ (c ∷ bs)))) Wrong

-- the letters that have appeared up to the end of a piece
abbrev pub seen_after : List ℕ → List ℕ → List ℕ
seen_after seen [] = seen
seen_after seen (b ∷ []) = cond (is_ascii_alphabetic b) (noted b seen) seen
seen_after seen (b ∷ (c ∷ bs)) = seen
