-- The items of a text: its pieces in their order, each with what it is to a book.
use Rattle.std.specs.Prelude.{◌≡◌, ℕ, ◌<◌, ◌≤◌, ◌⊎◌, List, [], ◌∷◌, length, take, drop, Some, None, Option}
use Rattle.words.specs.Automata.{Automaton}
use Rattle.tokens.specs.Pieces.{pieces}
use Rattle.tokens.specs.Senses.{sense_of, seen_after}
use Rattle.tokens.specs.declared.item.Item.{Item}

-- the most bytes that a text may have
abbrev pub longest : ℕ
longest = 1024

module _ (numbered : List ℕ → Option ℕ) (a : ℕ → Automaton) where
  -- the items of pieces, where these letters have appeared before them
  abbrev pub items_from : List ℕ → List (ℕ × List ℕ) → List Item
  items_from seen [] = []
  items_from seen (piece ∷ rest) =
      record { place = piece.0; sense = sense_of numbered a seen piece.1 } ∷ items_from (seen_after seen piece.1) rest

  -- the items of a text
  abbrev pub items_of : List ℕ → List Item
  items_of text = items_from [] (pieces 0 text)

  -- A text of at most 1,024 bytes, and no more than the memory has room for, is listed: its items stand at the front of the
  -- memory, and the memory behind them is as it was. With any other, nothing is written.
  abbrev pub Lists : List ℕ → List Item → List Item → Option ℕ → Type 0
  Lists text items items' (Some k) =
      (length text ≤ longest) × (length text ≤ length items)
      × (k ≡ length (items_of text)) × (take k items' ≡ items_of text) × (drop k items' ≡ drop k items)
  Lists text items items' None = ((longest < length text) ⊎ (length items < length text)) × (items' ≡ items)
