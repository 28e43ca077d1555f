-- Dropping tables from the top, until so many are left.
use Rattle.std.proofs.Common.{◌≡◌, ℕ, ◌<◌, ◌≤◌, List, Ok, Err, Result, inl, inr, refl, ◌∙◌, subst, arith}
use Rattle.tray.specs.Building.{SameSettings, SameTables}
use Rattle.tray.specs.Calls.{Drops, top_checks}
use Rattle.tray.specs.Checks.{FirstFailed}
use Rattle.tray.specs.Refusals.{number_of}
use Rattle.tray.specs.declared.control.Control.{Control}
use Rattle.tray.specs.declared.refusal.Refusal.{Refusal}
use Rattle.reading.specs.Stepping.{Leaves}
use Rattle.reading.proofs.Keeping.{settings_itself, settings_chain, tables_itself, tables_chain}

-- some of the upper tables are gone, and at least so many are left
pub record Lowered (count : ℕ) (c : Control) (tables : List ℕ) (c' : Control) (tables' : List ℕ) : Type 0 where
  pub settings : SameSettings c c'
  pub above : count ≤ c'.count
  pub others : SameTables c'.count c tables c' tables'
  pub memory : tables' ≡ tables

-- where there is a table, drop is not refused
none_fails : (k number : ℕ) → 1 ≤ k → FirstFailed (top_checks k) number → ⊥
none_fails k number some (inl f) = absurd (omega (arith, f.1))
none_fails k number some (inr f) = f.1

-- one table is dropped where there are more than so many
module _ (count : ℕ) (c' : Control) (tables' : List ℕ) (c'' : Control) (tables'' : List ℕ) (more : count < c'.count) where
  pub drop_smaller : (r : Result (Unit {0}) Refusal) → Drops c' tables' c'' tables'' r → c''.count < c'.count
  drop_smaller (Ok done) h = omega (arith, h.2)
  drop_smaller (Err why) h = absurd (none_fails c'.count (number_of why) (omega arith) h.0)

  pub lowered_more : (c : Control) (tables : List ℕ) (r : Result (Unit {0}) Refusal) → Drops c' tables' c'' tables'' r → Lowered count c tables c' tables'
      → Lowered count c tables c'' tables''
  lowered_more c tables (Ok done) h l = record {
    settings = settings_chain c c' c'' l.settings h.1;
    above = omega (arith, h.2);
    others = tables_chain c''.count c tables c' tables' c'' tables'' (λ k b. l.others k (omega (arith, h.2))) h.3;
    memory = h.4 ∙ l.memory;
  }
  lowered_more c tables (Err why) h l = absurd (none_fails c'.count (number_of why) (omega arith) h.0)

module _ (count : ℕ) (c : Control) (tables : List ℕ) where
  pub lowered_start : count ≤ c.count → Lowered count c tables c tables
  lowered_start h = record { settings = settings_itself c; above = h; others = tables_itself c.count c tables; memory = refl }

  pub lowered_ends : (c' : Control) (tables' : List ℕ) → c'.count ≤ count → Lowered count c tables c' tables' → Leaves count c tables c' tables'
  lowered_ends c' tables' h l =
      let left : c'.count ≡ count = omega (arith, l.above) in
      (l.settings, left, subst (λ k. SameTables k c tables c' tables') left l.others, l.memory)
