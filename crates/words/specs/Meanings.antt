-- Residuals, tables and texts of words that satisfy a formula: what `Residuals` says of tests of words, said of a formula.
use Rattle.std.specs.Prelude.{ℕ, ◌↔◌, Bool, List, ◌++◌}
use Rattle.words.specs.Words.{Columns}
use Rattle.words.specs.Formulas.{Formula, Satisfies, Tells}
use Rattle.words.specs.TableOf.{TableOf}

-- u and w have the same residual of a formula: the same words complete them to words that satisfy it
abbrev pub SameAfter : ℕ → (ℕ → List ℕ → Type 0) → Formula → List ℕ → List ℕ → Type 0
SameAfter n holds f u w = (v : List ℕ) → Columns n v → Satisfies holds f (u ++ v) ↔ Satisfies holds f (w ++ v)

-- the rows are the table of a formula: that of the test of words that tells the formula
abbrev pub FormulaTable : ℕ → (ℕ → List ℕ → Type 0) → Formula → List ℕ → ℕ → Type 0
FormulaTable n holds f rows size = (L : List ℕ → Bool) × Tells n holds f L × TableOf n L rows size
