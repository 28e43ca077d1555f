-- What stands in a tray's slot, out of its ghost field.
use Rattle.std.proofs.Common.{◌≡◌, ℕ, List, sym, ap, ◌∙◌, subst}
use mathlib.Core.Bool.{Bool-set}
use mathlib.Core.Logic.{∥∥₁_elim, ∥∥₁_map}
use Rattle.words.specs.Residuals.{BySets}
use Rattle.words.specs.Described.{language_of, IsTable}
use Rattle.words.specs.TableOf.{TableOf, answers}
use Rattle.words.specs.declared.rows.Rows.{Rows}
use Rattle.words.proofs.Recovered.{recovered}
use Rattle.tray.specs.declared.control.Control.{Control}
use Rattle.tray.specs.View.{size_of, rows_of, says, Stands}

pub table_in : (c : Control) (tables : List ℕ) (k : ℕ) → ∥ Stands c tables k ∥₁ → TableOf c.sets (says c tables k) (rows_of c tables k) (size_of c k)
table_in c tables k s = recovered c.sets (says c tables k) (rows_of c tables k) (size_of c k) (∥∥₁_map s (λ x. x.table))

pub by_sets_in : (c : Control) (tables : List ℕ) (k : ℕ) → ∥ Stands c tables k ∥₁ → BySets c.sets (says c tables k)
by_sets_in c tables k s u w cu cw e = ∥∥₁_elim s (Bool-set (says c tables k u) (says c tables k w)) (λ x. x.by_sets u w cu cw e)

-- rows that are those of table k accept the words that table k accepts
pub says_known : (c : Control) (tables : List ℕ) (k : ℕ) (r : Rows) → r.places ≡ c.sets → r.states ≡ size_of c k → r.cells.now ≡ rows_of c tables k
    → language_of r ≡ says c tables k
says_known c tables k r places states cells =
    ap (λ n w. answers n r.states r.cells.now w) places
    ∙ ap (λ s w. answers c.sets s r.cells.now w) states
    ∙ ap (λ x w. answers c.sets (size_of c k) x w) cells

-- and are a table, where table k stands
pub shown_table : (c : Control) (tables : List ℕ) (k : ℕ) (r : Rows) → r.places ≡ c.sets → r.states ≡ size_of c k → r.cells.now ≡ rows_of c tables k
    → ∥ Stands c tables k ∥₁ → ∥ IsTable r ∥₁
shown_table c tables k r places states cells stands =
    ∥∥₁_map stands (λ s. subst (λ n. TableOf n (λ w. answers n r.states r.cells.now w) r.cells.now r.states) (sym places)
    (subst (λ m. TableOf c.sets (λ w. answers c.sets m r.cells.now w) r.cells.now m) (sym states)
    (subst (λ x. TableOf c.sets (λ w. answers c.sets (size_of c k) x w) x (size_of c k)) (sym cells) s.table)))
