-- Drafts: beginning one, taking rows, sealing it. Row r of a draft over k places lies in the memory from r * width k on.
use Rattle.std.specs.Prelude.{◌≡◌, ℕ, ◌+◌, ◌*◌, ◌^◌, ◌<◌, ◌≤◌, ◌≢◌, List, [], ◌∷◌, ◌++◌, length, take, drop, Ok, Err, Result}
use Rattle.words.specs.Rows.{width, next_of, mark_of}
use Rattle.saving.specs.TableText.{names_line}
use Rattle.books.specs.Names.{IsName}
use Rattle.tray.specs.Checks.{FirstFailed, AllPass}
use Rattle.loading.specs.declared.draft.Draft.{Draft}
use Rattle.loading.specs.declared.unloaded.Unloaded.{Unloaded}
use Rattle.loading.specs.Lines.{IsRow}
use Rattle.loading.specs.Numbers.{number_of}

-- how much memory a draft over k places needs: 512 rows
abbrev pub room : ℕ → ℕ
room k = 512 * width k

-- ---- begin

-- the line is the line of names over k places, from 1 to 4
abbrev pub IsNames : List ℕ → ℕ → Type 0
IsNames line k = (1 ≤ k) × (k ≤ 4) × (line ≡ names_line k)

abbrev pub begin_checks : List ℕ → ℕ → List (ℕ × Type 0)
begin_checks line memory = (16, (k : ℕ) → IsNames line k → ⊥) ∷ (4, (k : ℕ) × IsNames line k × (memory < room k)) ∷ []

abbrev pub Begins : List ℕ → ℕ → Result Draft Unloaded → Type 0
Begins line memory (Ok d) = AllPass (begin_checks line memory) × IsNames line d.places × (d.rows ≡ 0)
Begins line memory (Err why) = FirstFailed (begin_checks line memory) (number_of why)

-- ---- row

abbrev pub row_checks : Draft → ℕ → List ℕ → List (ℕ × Type 0)
row_checks d memory line =
    (4, memory < room d.places) ∷ (25, 512 ≤ d.rows) ∷ (17, (cells : List ℕ) → IsRow d.places d.rows line cells → ⊥) ∷ []

-- the numbers from `base` on are these now, and all others are as they were
abbrev pub PutAt : ℕ → List ℕ → List ℕ → List ℕ → Type 0
PutAt base cells memory memory' = memory' ≡ take base memory ++ (cells ++ drop (base + length cells) memory)

abbrev pub TakesRow : Draft → List ℕ → List ℕ → Draft → List ℕ → Result (Unit {0}) Unloaded → Type 0
TakesRow d memory line d' memory' (Ok _) =
    AllPass (row_checks d (length memory) line) × (d'.places ≡ d.places) × (d'.rows ≡ d.rows + 1)
    × (cells : List ℕ) × IsRow d.places d.rows line cells × PutAt (d.rows * width d.places) cells memory memory'
TakesRow d memory line d' memory' (Err why) = FirstFailed (row_checks d (length memory) line) (number_of why) × (d' ≡ d) × (memory' ≡ memory)

-- ---- seal

-- some column leads from row r of n rows to no row
abbrev pub LeadsOut : ℕ → ℕ → List ℕ → ℕ → Type 0
LeadsOut k n memory r = (c : ℕ) × ((c < 2 ^ k) × (n ≤ next_of k memory r c))

-- row r does not accept like the row that column 0 leads to
abbrev pub Unsettles : ℕ → List ℕ → ℕ → Type 0
Unsettles k memory r = mark_of k memory r ≢ mark_of k memory (next_of k memory r 0)

abbrev pub seal_checks : Draft → List ℕ → List ℕ → List (ℕ × Type 0)
seal_checks d memory name =
    (4, length memory < room d.places) ∷ (10, IsName name → ⊥) ∷ (24, d.rows < 1)
    ∷ (17, (r : ℕ) × (r < d.rows) × (1 < mark_of d.places memory r))
    ∷ (18, (r : ℕ) × (r < d.rows) × LeadsOut d.places d.rows memory r)
    ∷ (19, (r : ℕ) × (r < d.rows) × Unsettles d.places memory r) ∷ []

-- the answer of checks: none fails, or the first that does
abbrev pub Checked : List (ℕ × Type 0) → Result (Unit {0}) Unloaded → Type 0
Checked checks (Ok _) = AllPass checks
Checked checks (Err why) = FirstFailed checks (number_of why)
