-- The tokens of a text: parts of it, each with its place, the byte where it begins.
use Rattle.std.specs.Prelude.{◌≡◌, ℕ, ◌+◌, ◌<◌, ◌≤◌, true, false, List, [], ◌∷◌, length, take, drop, slice_index, Some, None, Option, Ok, Err, Result}
use Rattle.std.specs.Char.{is_ascii_alphabetic}
use Rattle.tokens.specs.Marks.{mark_of}
use Rattle.tokens.specs.Pieces.{blank, on_letter, pieces}
use Rattle.tokens.specs.Senses.{is_name}
use Rattle.tokens.specs.declared.token.NoToken.{NoToken}
use Rattle.tokens.specs.declared.token.Part.{Part}
use Rattle.tokens.specs.declared.token.Token.{Token}
use Rattle.tokens.specs.declared.token.Token.TheVariants.{Mark, Name, Variable}

-- the place of a token, or of what is none
abbrev pub place_of : Result Token NoToken → ℕ
place_of (Ok (Mark place byte mark)) = place
place_of (Ok (Name place name)) = place
place_of (Ok (Variable place letter)) = place
place_of (Err wrong) = wrong.place

-- its bytes
abbrev pub bytes_of : Result Token NoToken → List ℕ
bytes_of (Ok (Mark place byte mark)) = byte.now ∷ []
bytes_of (Ok (Name place name)) = name.now
bytes_of (Ok (Variable place letter)) = letter.now ∷ []
bytes_of (Err wrong) = wrong.bytes.now

-- bytes that are no token: one that is no letter, blank or mark, or more that are no name
abbrev pub IsNoToken : List ℕ → Type 0
IsNoToken [] = ⊥
IsNoToken (b ∷ []) = (is_ascii_alphabetic b ≡ false) × (blank b ≡ false) × (mark_of b ≡ None)
IsNoToken (b ∷ (c ∷ bs)) = is_name (b ∷ (c ∷ bs)) ≡ false

-- a mark is one of the six, a name is three lower-case letters, a variable is one letter, and all else is no token
abbrev pub IsRead : Result Token NoToken → Type 0
IsRead (Ok (Mark place byte mark)) = mark_of byte.now ≡ Some mark
IsRead (Ok (Name place name)) = is_name name.now ≡ true
IsRead (Ok (Variable place letter)) = is_ascii_alphabetic letter.now ≡ true
IsRead (Err wrong) = IsNoToken wrong.bytes.now

-- These bytes stand in the text at this place: letters, as many as there are, or one other byte.
pub record StandsAt (text : List ℕ) (place : ℕ) (bytes : List ℕ) : Type 0 where
  pub within : place + length bytes ≤ length text
  pub same : take (length bytes) (drop place text) ≡ bytes
  pub letters : on_letter bytes ≡ true → (k : ℕ) → place ≤ k → k < place + length bytes → is_ascii_alphabetic (slice_index text k) ≡ true
  pub longest : on_letter bytes ≡ true → on_letter (drop (place + length bytes) text) ≡ false
  pub alone : on_letter bytes ≡ false → length bytes ≡ 1

-- The text has this token, or this part that is none, at its place.
abbrev pub HasToken : List ℕ → Result Token NoToken → Type 0
HasToken text token = StandsAt text (place_of token) (bytes_of token) × IsRead token

-- From here on, the text has this part next: only blanks stand before it, it ends behind its bytes, and the other pieces follow.
pub record Follows (text : List ℕ) (from : ℕ) (part : Part) : Type 0 where
  pub has : HasToken text part.token
  pub behind : from ≤ place_of part.token
  pub blanks : (k : ℕ) → from ≤ k → k < place_of part.token → blank (slice_index text k) ≡ true
  pub ends : part.end ≡ place_of part.token + length (bytes_of part.token)
  pub cut : pieces from (drop from text) ≡ (place_of part.token, bytes_of part.token) ∷ pieces part.end (drop part.end text)

-- what is next in a text, if it is not blank from here on
abbrev pub IsNext : List ℕ → ℕ → Option Part → Type 0
IsNext text from (Some part) = Follows text from part
IsNext text from None = ((k : ℕ) → from ≤ k → k < length text → blank (slice_index text k) ≡ true) × (pieces from (drop from text) ≡ [])
