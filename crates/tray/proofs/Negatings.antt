-- The top table with its marks turned over, in its slot.
use Rattle.std.proofs.Common.{◌≡◌, ℕ, ◌+◌, ◌-◌, ◌*◌, ◌<◌, ◌≤◌, Bool, true, not, List, set, Decides, sym, ap, ◌∙◌, subst, ap₂, arith}
use Rattle.std.proofs.lemmas.List.{set-get_or}
use Rattle.std.proofs.lemmas.Bool.Decides.{Decides-not}
use Rattle.words.specs.Words.{Columns, coded}
use Rattle.words.specs.Residuals.{BySets, SameResidual}
use Rattle.words.specs.TableOf.{TableOf}
use Rattle.words.proofs.Answering.{table_answers, table_of_answers}
use Rattle.words.proofs.Negations.{negated_table}
use Rattle.words.proofs.TableLaws.{table_counts}
use Rattle.tray.specs.declared.control.Control.{Control}
use Rattle.tray.specs.Flipped.{Flipped}
use Rattle.tray.proofs.Landings.{Lands}
use Rattle.tray.specs.View.{slot, size_of, rows_of, moved, says}
use Rattle.tray.proofs.Flips.{flipped_next, flipped_mark, flipped_elsewhere}

module _ (c : Control) (tables tables' : List ℕ) (k : ℕ) (fits : size_of c k ≤ c.budget)
    (t : TableOf c.sets (says c tables k) (rows_of c tables k) (size_of c k))
  where
    pub negated : Flipped c.sets (k * slot c) (size_of c k) tables tables'
        → Lands c.sets c.budget (k * slot c) (SameResidual c.sets (says c tables k)) (λ w. says c tables k w ≡ true → ⊥) tables tables' (size_of c k) (size_of c k)
    negated flipped =
        let n : ℕ = c.sets in
        let size : ℕ = size_of c k in
        let L : List ℕ → Bool = says c tables k in
        let made : TableOf n (λ w. not (L w)) (rows_of c tables' k) size =
        negated_table n size L (rows_of c tables k) (rows_of c tables' k) t (flipped_next n (k * slot c) size tables tables' flipped) (flipped_mark n (k * slot c) size tables tables' flipped) in
        record {
          met_few = fits;
          size_few = omega arith;
          met_count = table_counts n L (rows_of c tables k) size t;
          table = table_of_answers n (λ w. not (L w)) (rows_of c tables' k) size made;
          means = λ w cs. subst (λ b. Decides b (L w ≡ true → ⊥)) (sym (table_answers n (λ v. not (L v)) (rows_of c tables' k) size made w cs))
              (Decides-not (L w) ((λ e. e), (λ e. e)));
          elsewhere = flipped_elsewhere n (k * slot c) size tables tables' flipped;
        }

pub not_moves : (n : ℕ) (L : List ℕ → Bool) → BySets n L
    → (u w : List ℕ) → Columns n u → Columns n w → ((i : ℕ) → i < n → coded i u ≡ coded i w) → (L u ≡ true → ⊥) → L w ≡ true → ⊥
not_moves n L by u w cu cw e none m = none (by u w cu cw e ∙ m)

-- the control record is that of a tray whose top was written again with its own size
pub same_control : (c : Control) (size : ℕ) → 1 ≤ c.count → size ≡ size_of c (c.count - 1) → moved c (c.count - 1 + 1) (set c.sizes (c.count - 1) size) ≡ c
same_control c size some is =
    let back : c.count - 1 + 1 ≡ c.count = omega arith in
    ap₂ (moved c) back (ap (set c.sizes (c.count - 1)) is ∙ set-get_or c.sizes (c.count - 1) 0)
