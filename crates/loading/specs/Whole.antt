-- Loading a whole text.
use Rattle.std.specs.Prelude.{◌≡◌, ◌≢◌, ℕ, ◌+◌, ◌≤◌, ◌⊎◌, Bool, List, [], ◌∷◌, length, Ok, Err, Result}
use Rattle.words.specs.Residuals.{BySets}
use Rattle.words.specs.TableOf.{TableOf}
use Rattle.saving.specs.TableText.{table_text}
use Rattle.books.specs.Names.{IsName}
use Rattle.loading.specs.declared.draft.Draft.{Draft}
use Rattle.loading.specs.declared.loaded.Loaded.{Loaded}
use Rattle.loading.specs.declared.reading.Fault.{Fault}
use Rattle.loading.specs.declared.seal.Unsealed.{Unsealed}
use Rattle.loading.specs.Cutting.{cut, Cuts}
use Rattle.loading.specs.Drafts.{Begins, TakesRow, room}
use Rattle.loading.specs.Sealing.{Seals}

-- a draft takes lines one after another
abbrev pub Takes : Draft → List ℕ → List (List ℕ) → Draft → List ℕ → Type 0
Takes d memory [] d' memory' = (d' ≡ d) × (memory' ≡ memory)
Takes d memory (line ∷ lines) d' memory' = (e : Draft) × (m : List ℕ) × TakesRow d memory line e m (Ok tt) × Takes e m lines d' memory'

-- the first line begins a draft d, which takes the next lines and is e then; so much of the text is left
abbrev pub Reads : List ℕ → List ℕ → Draft → List (List ℕ) → Draft → List ℕ → List ℕ → Type 0
Reads text memory d lines e memory' rest = Begins (cut text).0 (length memory) (Ok d) × Cuts ((cut text).1) lines rest × Takes d memory lines e memory'

-- The text is read whole, and sealed. Or it is not loaded, and the place is as it was: the first line begins no draft, a later
-- line is not taken, whose number is told, or the draft is not sealed.
abbrev pub Loads : List ℕ → List ℕ → List ℕ → Loaded → List ℕ → Loaded → Result (Unit {0}) Fault → Type 0
Loads text memory name b memory' b' (Ok _) =
    (d : Draft) × (lines : List (List ℕ)) × (e : Draft) × Reads text memory d lines e memory' [] × Seals e memory' name b b' (Ok tt)
Loads text memory name b memory' b' (Err f) =
    (b' ≡ b)
    × (((f.line ≡ 1) × Begins (cut text).0 (length memory) (Err f.why) × (memory' ≡ memory))
    ⊎ (((d : Draft) × (lines : List (List ℕ)) × (e : Draft) × (m : List ℕ) × (rest : List ℕ) × Reads text memory d lines e m rest × (rest ≢ [])
    × (f.line ≡ length lines + 2) × TakesRow e m (cut rest).0 e memory' (Err f.why))
    ⊎ ((d : Draft) × (lines : List (List ℕ)) × (e : Draft) × (x : Unsealed) × Reads text memory d lines e memory' []
    × (f.line ≡ 0) × (f.why ≡ x.why) × Seals e memory' name b b (Err x))))

-- What save wrote is loaded: the text of the table of a language that depends only on the sets coded, over 1 to 4 sets and of at most
-- 512 states, where the memory is long enough and the name is one.
abbrev pub LoadsSaved : List ℕ → ℕ → List ℕ → Result (Unit {0}) Fault → Type 0
LoadsSaved text memory name r =
    (k : ℕ) (L : List ℕ → Bool) (rows : List ℕ) (size : ℕ) → 1 ≤ k → k ≤ 4 → size ≤ 512 → TableOf k L rows size → BySets k L
    → text ≡ table_text k size rows → room k ≤ memory → IsName name → r ≡ Ok tt
