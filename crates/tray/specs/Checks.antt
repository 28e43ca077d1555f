-- The checks of a call, in their order: each has a number, and says when it fails.
use Rattle.std.specs.Prelude.{◌≡◌, ℕ, ◌⊎◌, List, [], ◌∷◌, Ok, Err, Result}
use Rattle.tray.specs.declared.refusal.Refusal.{Refusal}
use Rattle.tray.specs.Refusals.{number_of}

-- k is the number of the first check that fails
abbrev pub FirstFailed : List (ℕ × Type 0) → ℕ → Type 0
FirstFailed [] k = ⊥
FirstFailed (x ∷ rest) k = ((k ≡ x.0) × x.1) ⊎ ((x.1 → ⊥) × FirstFailed rest k)

-- no check fails
abbrev pub AllPass : List (ℕ × Type 0) → Type 0
AllPass [] = Unit {0}
AllPass (x ∷ rest) = (x.1 → ⊥) × AllPass rest

-- the answer of checks: none fails, or a refusal with the number of the first that does
abbrev pub Checked : List (ℕ × Type 0) → Result (Unit {0}) Refusal → Type 0
Checked checks (Ok _) = AllPass checks
Checked checks (Err r) = FirstFailed checks (number_of r)
