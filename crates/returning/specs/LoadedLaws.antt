-- What a loaded table saves as, wherever its predicate is placed: statements. The function `laws_of_loaded` carries their proofs.
use Rattle.std.specs.Prelude.{◌≡◌, ℕ, ◌<◌, ◌↔◌, List, ◌∷◌, length}
use Rattle.words.specs.Formulas.{Formula, placed}
use Rattle.saving.specs.Saved.{IsWritten}
use Rattle.tray.specs.declared.refusal.Refusal.TheVariants.{NoBuffer}
use Rattle.calls.specs.declared.call.Call.TheVariants.{Save}
use Rattle.calls.specs.declared.call.Reply.{Reply}
use Rattle.calls.specs.declared.call.Reply.TheVariants.{Saved, Refused, Built, Dropped, Judged}
use Rattle.calls.specs.Owed.{Terms, Desk, Owes, FormulaText}
use Rattle.loading.specs.declared.loaded.Loaded.{Loaded}
use Rattle.loading.specs.Loaded.{holds as loaded_holds, text_of}
use Rattle.returning.specs.Returning.{all_sets, IsTableText}

-- the reply to save where this text is due, and what the buffer holds then: the text, or the buffer is shorter and as it was
abbrev pub SavesText : List ℕ → List ℕ → List ℕ → Reply → Type 0
SavesText text buffer buffer' (Saved bytes) = IsWritten text buffer buffer' bytes
SavesText text buffer buffer' (Refused why) = (why ≡ NoBuffer) × (length buffer < length text) × (buffer' ≡ buffer)
SavesText text buffer buffer' (Built met kept) = ⊥
SavesText text buffer buffer' Dropped = ⊥
SavesText text buffer buffer' (Judged j) = ⊥

-- A table was loaded of a text that is the text of the table of some language, and predicate p of a book, whose predicates mean
-- `holds`, means what the loaded one means: it is that one, or the book is bound of books of which the loaded one is one.
pub record LoadedLaws (holds : ℕ → List ℕ → Type 0) (b : Loaded) : Type 0 where
  -- the text of its table on the sets 0 to k - 1 over k sets is the text that was loaded
  pub same_text : (states : ℕ) → IsTableText (text_of b) states
      → (p : ℕ) → ((x : List ℕ) → holds p x ↔ loaded_holds b 0 x)
      → FormulaText b.places holds (placed p (all_sets b.places)) (text_of b)
  -- on any tray over k sets, whatever it goes by and whatever lies below: these bytes are due to save, and no others
  pub saves : (states : ℕ) → IsTableText (text_of b) states
      → (p : ℕ) → ((x : List ℕ) → holds p x ↔ loaded_holds b 0 x)
      → (t : Terms) (d e : Desk) (rest : List Formula) (reply : Reply) → t.sets ≡ b.places → d.pile ≡ placed p (all_sets b.places) ∷ rest
      → Owes t holds d Save reply e → SavesText (text_of b) d.buffers.text e.buffers.text reply
