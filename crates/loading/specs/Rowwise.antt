-- The lines behind the first one: a contract within loading a text. A reader of the statement can pass over this file.
use Rattle.std.specs.Prelude.{◌≡◌, ◌≢◌, ℕ, ◌+◌, List, [], Ok, Err, Result}
use Rattle.loading.specs.declared.draft.Draft.{Draft}
use Rattle.loading.specs.declared.reading.Fault.{Fault}
use Rattle.loading.specs.Cutting.{cut, Cuts}
use Rattle.loading.specs.Drafts.{TakesRow}
use Rattle.loading.specs.Whole.{Takes}

abbrev pub TakesRows : Draft → List ℕ → List ℕ → List ℕ → Result Draft Fault → Type 0
TakesRows d memory text memory' (Ok e) = (lines : List (List ℕ)) × Cuts text lines [] × Takes d memory lines e memory'
TakesRows d memory text memory' (Err f) =
    (lines : List (List ℕ)) × (e : Draft) × (m : List ℕ) × (rest : List ℕ) × Cuts text lines rest × (rest ≢ []) × Takes d memory lines e m
    × (f.line ≡ e.rows + 2) × TakesRow e m (cut rest).0 e memory' (Err f.why)
