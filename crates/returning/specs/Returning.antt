-- What comes of a text that is loaded and saved again.
use Rattle.std.specs.Prelude.{◌≡◌, ℕ, ◌<◌, ◌≤◌, ◌⊎◌, Bool, List, [], ◌∷◌, length, Ok, Err, Result}
use Rattle.std.specs.Borrow.{Bor}
use Rattle.std.specs.List.{range_with_len}
use Rattle.words.specs.Formulas.{Formula, placed}
use Rattle.words.specs.Residuals.{MoreThan}
use Rattle.words.specs.TableOf.{TableOf}
use Rattle.saving.specs.Saved.{IsWritten}
use Rattle.saving.specs.TableText.{table_text}
use Rattle.tray.specs.Asked.{SameBookState}
use Rattle.tray.specs.declared.control.Control.{Control}
use Rattle.tray.specs.declared.refusal.Refusal.{Refusal}
use Rattle.tray.specs.declared.refusal.Refusal.TheVariants.{NoBuffer, TooFewTables}
use Rattle.calls.specs.declared.call.Call.TheVariants.{Place, Save}
use Rattle.calls.specs.declared.call.Reply.{Reply}
use Rattle.calls.specs.declared.call.Reply.TheVariants.{Saved, Refused, Built, Dropped, Judged}
use Rattle.calls.specs.Buffers.{Buffers}
use Rattle.calls.specs.Lent.{lent_for}
use Rattle.calls.specs.Owed.{FormulaText}
use Rattle.calls.specs.Promise.{Replays}
use Rattle.loading.specs.declared.loaded.Loaded.{Loaded}
use Rattle.loading.specs.Loaded.{size, automaton, holds}
use Rattle.loading.specs.Whole.{Loads}
use Rattle.returning.specs.declared.again.Unreturned.{Unreturned}
use Rattle.returning.specs.declared.again.Unreturned.TheVariants.{NotLoaded, NotOpened}

-- sets 0 to k - 1, in order
abbrev pub all_sets : ℕ → List ℕ
all_sets k = range_with_len 0 k

-- the loaded predicate on all sets of a tray that has one for each of its places
abbrev pub on_all : Loaded → Formula
on_all b = placed 0 (all_sets b.places)

-- A run: the one predicate of a book over k places is placed on sets 0 to k - 1 of a tray that is opened for k sets and one table, and
-- the top is saved.
abbrev pub SavesAgain : ℕ → ℕ → Loaded → ℕ → Control → List ℕ → Buffers → Control → List ℕ → Buffers → Result Reply Refusal → Type 0
SavesAgain records budget b spare c tables out c' tables' out' r =
    (listed : Bor (List ℕ)) × (listed.now ≡ all_sets b.places)
    × Replays (record { sets = b.places; budget = budget; depth = 1 }) (lent_for records) (size b) (automaton b) (holds b) spare c tables out
    (Place 0 listed ∷ []) Save c' tables' out' r

-- The text is loaded, and the run is made; or it is not loaded, and no more is done.
abbrev pub Returns : ℕ → List ℕ → List ℕ → ℕ → List ℕ → Loaded → ℕ → Control → List ℕ → Buffers → List ℕ → Loaded → Control → List ℕ → Buffers
    → Result Reply Unreturned → Type 0
Returns records text name budget memory b spare c tables out memory' b' c' tables' out' (Ok reply) =
    Loads text memory name b memory' b' (Ok tt) × SavesAgain records budget b' spare c tables out c' tables' out' (Ok reply)
Returns records text name budget memory b spare c tables out memory' b' c' tables' out' (Err (NotOpened why)) =
    Loads text memory name b memory' b' (Ok tt) × SavesAgain records budget b' spare c tables out c' tables' out' (Err why)
Returns records text name budget memory b spare c tables out memory' b' c' tables' out' (Err (NotLoaded fault)) =
    Loads text memory name b memory' b' (Err fault) × (c' ≡ c) × (tables' ≡ tables) × (out' ≡ out)

-- ---- what each reply says

-- Place is refused in the run: too few records are lent for the budget, or the words lead to more states of the book than the budget.
abbrev pub PlaceRefused : ℕ → ℕ → Loaded → Type 0
PlaceRefused records budget b = (records < budget) ⊎ MoreThan b.places (SameBookState (automaton b 0) (all_sets b.places)) budget

-- The text of the loaded predicate's table is written. Or nothing is, since place was refused and there is no top, or the buffer is
-- shorter than that text.
abbrev pub Replies : ℕ → ℕ → Loaded → List ℕ → List ℕ → Reply → Type 0
Replies records budget b buffer buffer' (Saved bytes) =
    (PlaceRefused records budget b → ⊥) × (text : List ℕ) × FormulaText b.places (holds b) (on_all b) text × IsWritten text buffer buffer' bytes
Replies records budget b buffer buffer' (Refused why) =
    (buffer' ≡ buffer)
    × (((why ≡ TooFewTables) × PlaceRefused records budget b)
    ⊎ ((why ≡ NoBuffer) × (PlaceRefused records budget b → ⊥)
    × (text : List ℕ) × FormulaText b.places (holds b) (on_all b) text × (length buffer < length text)))
Replies records budget b buffer buffer' (Built met kept) = ⊥
Replies records budget b buffer buffer' Dropped = ⊥
Replies records budget b buffer buffer' (Judged j) = ⊥

-- ---- the same bytes

-- the text of the table of some language, which has so many residuals
abbrev pub IsTableText : List ℕ → ℕ → Type 0
IsTableText text states = (n : ℕ) × (L : List ℕ → Bool) × (rows : List ℕ) × TableOf n L rows states × (text ≡ table_text n states rows)

-- What save wrote of a table with so many states is saved as the same bytes. Or it is not saved: fewer records than the budget are
-- lent, the budget is below the states, or the buffer is shorter than the text.
abbrev pub SameBytes : ℕ → ℕ → List ℕ → List ℕ → List ℕ → Reply → Type 0
SameBytes records budget text buffer buffer' (Saved bytes) = (states : ℕ) → IsTableText text states → (states ≤ budget) × IsWritten text buffer buffer' bytes
SameBytes records budget text buffer buffer' (Refused why) =
    (states : ℕ) → IsTableText text states
    → ((why ≡ TooFewTables) × ((records < budget) ⊎ (budget < states)))
    ⊎ ((why ≡ NoBuffer) × (states ≤ budget) × (length buffer < length text))
SameBytes records budget text buffer buffer' (Built met kept) = ⊥
SameBytes records budget text buffer buffer' Dropped = ⊥
SameBytes records budget text buffer buffer' (Judged j) = ⊥
