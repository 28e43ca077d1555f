-- One memory that is cut in two has room exactly when the whole has.
use Rattle.std.proofs.Common.{◌≡◌, ℕ, ◌+◌, ◌*◌, ◌<◌, ◌≤◌, ◌⊎◌, ◌&&◌, ◌↔◌, true, min, nat_le, length, inl, inr, ⊎_elim, subst, sym, ap₂, ◌∙◌, arith}
use Rattle.std.proofs.Math.Nat.{min-le_right, le-min}
use Rattle.std.proofs.lemmas.Bool.{cases_lt, le-leb, cond-true}
use Rattle.words.specs.Rows.{width}
use Rattle.tray.specs.declared.tray.Tray.{Tray}
use Rattle.tray.specs.Checks.{AllPass}
use Rattle.tray.specs.Memory.{SameMemory}
use Rattle.tray.specs.Opening.{open_checks, tables_part}
use Rattle.tray.specs.OpeningLaws.{OpeningLaws}

in_range : (n b d : ℕ) → n ≤ 8 → b ≤ 512 → d ≤ 16 → (nat_le n 8 && nat_le b 512 && nat_le d 16) ≡ true
in_range n b d sets budget depth =
    ap₂ (λ x y. x && y) (ap₂ (λ x y. x && y) (le-leb n 8 sets) (le-leb b 512 budget)) (le-leb d 16 depth)

two_more : (d x : ℕ) → (d + 2) * x ≡ d * x + 2 * x
two_more d x = grind arith

pub cut_short : (n b d tables spare : ℕ) → n ≤ 8 → b ≤ 512 → d ≤ 16 → tables ≡ tables_part n b d (tables + spare)
    → ((tables < d * (b * width n)) ⊎ (spare < 2 * (b * width n))) ↔ (tables + spare < (d + 2) * (b * width n))
cut_short n b d tables spare sets budget depth is = (
  (λ short. ⊎_elim (λ few. ⊎_elim (λ more. omega (arith, all, more)) (λ fits. absurd (omega (arith, few, enough fits))) (cases_lt (tables + spare) slots))
      (λ few. omega (arith, all, few, at_most)) short),
  (λ short. ⊎_elim (λ few. inl few) (λ fits. inr (omega (arith, all, short, fits, at_most))) (cases_lt tables slots)),
)
  where
    slots : ℕ
    slots = d * (b * width n)

    all : (d + 2) * (b * width n) ≡ slots + 2 * (b * width n)
    all = two_more d (b * width n)

    part : tables ≡ min (tables + spare) slots
    part = is ∙ cond-true (nat_le n 8 && nat_le b 512 && nat_le d 16) (min (tables + spare) slots) 0 (in_range n b d sets budget depth)

    at_most : tables ≤ slots
    at_most = subst (λ x. x ≤ slots) (sym part) (min-le_right (tables + spare) slots)

    enough : slots ≤ tables + spare → slots ≤ tables
    enough fits = subst (λ x. slots ≤ x) (sym part) (le-min fits (omega arith))

open_again : (t t' : Tray) (n b d : ℕ) → SameMemory t t' → AllPass (open_checks n b d (length t.tables.now) (length t.spare.now))
    → AllPass (open_checks n b d (length t'.tables.now) (length t'.spare.now))
open_again t t' n b d same pass =
    subst (λ s. AllPass (open_checks n b d (length t'.tables.now) s)) (sym same.spare_long)
    (subst (λ k. AllPass (open_checks n b d k (length t.spare.now))) (sym same.tables_long) pass)

pub opening_laws : OpeningLaws
opening_laws = record { cut = cut_short; again = open_again }
