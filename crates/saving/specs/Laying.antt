-- Bytes laid into a buffer: contracts of the functions within saving. A reader of the statement can pass over this file.
use Rattle.std.specs.Prelude.{◌≡◌, ℕ, ◌+◌, ◌-◌, ◌^◌, List, ◌++◌, codes, decimal, slice_set, min}
use Rattle.std.specs.List.{flat_map, fold}
use Rattle.words.specs.Automata.{Automaton}
use Rattle.saving.specs.TableText.{numbers}
use Rattle.saving.specs.declared.text.Text.{Text}

-- what a buffer holds, and the place for the next byte
abbrev pub Page : Type 0
Page = List ℕ × ℕ

abbrev pub page : Text → Page
page text = (text.buffer.now, text.end)

-- one byte more; past the end of the buffer it is let go, and the place stops at the last number of 64 bits
abbrev pub with_byte : Page → ℕ → Page
with_byte p byte = (slice_set p.0 p.1 byte, min (p.1 + 1) (2 ^ 64 - 1))

-- the page after a piece was laid, one byte after another
abbrev pub with_piece : Page → List ℕ → Page
with_piece = fold with_byte

-- a piece was laid, in the same buffer
pub record Lays (piece : List ℕ) (old new : Text) : Type 0 where
  pub same : new.buffer.ghost_name ≡ old.buffer.ghost_name
  pub laid : page new ≡ with_piece (page old) piece

-- a text was laid at the front of a buffer, and this is where it ends
abbrev pub LaysWhole : List ℕ → List ℕ → List ℕ → ℕ → Type 0
LaysWhole text buffer buffer' end = (buffer', end) ≡ with_piece (buffer, 0) text

-- the names of the first k columns, each with a space before it
abbrev pub names_of : ℕ → List ℕ
names_of k = flat_map (λ c. codes " n" ++ decimal c) (numbers k)

-- the next states of state s by the first k columns, each with a space before it
abbrev pub nexts_of : Automaton → ℕ → ℕ → List ℕ
nexts_of a s k = flat_map (λ c. codes " " ++ decimal (a.step s c)) (numbers k)
