-- From a table in its slot to what a building call owes: the tables below stand as they stood, and the new one stands above.
use Rattle.std.proofs.Common.{◌≡◌, ℕ, suc, ◌+◌, ◌*◌, ◌<◌, ◌≤◌, Bool, ◌⊎◌, List, length, get_or, set, Decides, sym, refl, ap, ◌∙◌, subst, inl, inr, mul-le-mul_right, arith}
use native.Mathlib.Bridge.{le_prop}
use mathlib.Core.Logic.{∥∥₁_elim, ∥∥₁_map}
use Rattle.std.proofs.lemmas.List.{get_or-drop, get_or-set_same, get_or-set_other}
use Rattle.std.proofs.lemmas.Bool.{cases_lt}
use Rattle.std.proofs.lemmas.Bool.Decides.{same_from_decides}
use Rattle.words.specs.Words.{Columns, coded}
use Rattle.words.specs.Rows.{width}
use Rattle.words.specs.Residuals.{BySets, SameResidual, Count}
use Rattle.words.specs.TableOf.{TableOf, answers}
use Rattle.words.proofs.Answering.{table_of_same}
use Rattle.words.proofs.Cells.{cell_below}
use Rattle.words.proofs.Copies.{copied_answers, copied_table}
use Rattle.words.proofs.TableLaws.{table_counts}
use Rattle.tray.specs.declared.control.Control.{Control}
use Rattle.tray.specs.declared.tray.Tray.{Tray}
use Rattle.tray.specs.View.{slot, size_of, rows_of, moved, Within, says, Stands}
use Rattle.tray.specs.Building.{Built}
use Rattle.tray.proofs.Checking.{within_slots}
use Rattle.tray.proofs.Landings.{Lands}

-- a truncated table still fits its slot
pub fits_slot : (c : Control) (tables : List ℕ) (k : ℕ) → ∥ Stands c tables k ∥₁ → size_of c k ≤ c.budget
fits_slot c tables k stands = ∥∥₁_elim stands le_prop (λ s. s.fits)

-- ---- tables that were not written

module _ (c : Control) (count : ℕ) (sizes tables tables' : List ℕ) (k : ℕ) (size : get_or sizes k 0 ≡ size_of c k)
    (same : (i : ℕ) → i < suc k * slot c → get_or tables' i 0 ≡ get_or tables i 0)
  where
    rows_same : size_of c k ≤ c.budget → (x : ℕ) → x < size_of c k * width c.sets → get_or (rows_of c tables' k) x 0 ≡ get_or (rows_of c tables k) x 0
    rows_same fits x h =
        get_or-drop (k * slot c) tables' x 0
        ∙ same (k * slot c + x) (cell_below (slot c) (suc k) k x (omega arith) (omega (arith, mul-le-mul_right (width c.sets) fits)))
        ∙ sym (get_or-drop (k * slot c) tables x 0)

    pub says_same : size_of c k ≤ c.budget → (w : List ℕ) → says (moved c count sizes) tables' k w ≡ says c tables k w
    says_same fits w =
        ap (λ s. answers c.sets s (rows_of c tables' k) w) size
        ∙ copied_answers c.sets (size_of c k) (rows_of c tables k) (rows_of c tables' k) (rows_same fits) w

    pub stands_same : Stands c tables k → Stands (moved c count sizes) tables' k
    stands_same s =
        let n : ℕ = c.sets in
        let new : List ℕ → Bool = says (moved c count sizes) tables' k in
        let same_answer : (w : List ℕ) → says c tables k w ≡ new w = λ w. sym (says_same s.fits w) in
        record {
          fits = subst (λ x. x ≤ c.budget) (sym size) s.fits;
          table = subst (TableOf n new (rows_of c tables' k)) (sym size)
              (table_of_same n (says c tables k) new (rows_of c tables' k) (size_of c k) (λ w _. same_answer w)
              (copied_table n (size_of c k) (rows_of c tables k) (rows_of c tables' k) (rows_same s.fits) (says c tables k) s.table));
          by_sets = λ u w cu cw e. sym (same_answer u) ∙ s.by_sets u w cu cw e ∙ same_answer w;
        }

-- ---- the new table

-- what depends only on the sets coded is decided by them
pub by_sets_means : (n : ℕ) (L : List ℕ → Bool) (Means : List ℕ → Type 0) → ((w : List ℕ) → Columns n w → Decides (L w) (Means w))
    → ((u w : List ℕ) → Columns n u → Columns n w → ((i : ℕ) → i < n → coded i u ≡ coded i w) → Means u → Means w) → BySets n L
by_sets_means n L Means means moves u w cu cw e =
    same_from_decides (L u) (L w)
    ((λ l. moves u w cu cw e ((means u cu).0 l)), (λ m. (means u cu).1 (moves w u cw cu (λ i h. sym (e i h)) m)))
    (means w cw)

module _ (c : Control) (tables tables' : List ℕ) (below : ℕ) (Same : List ℕ → List ℕ → Type 0) (Means : List ℕ → Type 0) (met size : ℕ)
    (landed : Lands c.sets c.budget (below * slot c) Same Means tables tables' met size) (within : below < length c.sizes)
  where
    new : Control
    new = moved c (below + 1) (set c.sizes below size)

    top_size : size_of new below ≡ size
    unfolding new
    top_size = get_or-set_same c.sizes below size 0 within

    low_size : (k : ℕ) → k < below → size_of new k ≡ size_of c k
    unfolding new
    low_size k h = get_or-set_other c.sizes below k size 0 (λ e. omega arith)

    low_cells : (k : ℕ) → k < below → (i : ℕ) → i < suc k * slot c → get_or tables' i 0 ≡ get_or tables i 0
    low_cells k h i l = landed.elsewhere.0 i (omega (arith, mul-le-mul_right (slot c) h))

    pub top_stands : ((u w : List ℕ) → Columns c.sets u → Columns c.sets w → ((i : ℕ) → i < c.sets → coded i u ≡ coded i w) → Means u → Means w)
        → Stands (moved c (below + 1) (set c.sizes below size)) tables' below
    unfolding new
    top_stands moves =
        let n : ℕ = c.sets in
        let L : ℕ → List ℕ → Bool = λ s. answers n s (rows_of c tables' below) in
        record {
          fits = subst (λ s. s ≤ c.budget) (sym top_size) (omega (arith, landed.met_few, landed.size_few));
          table = subst (λ s. TableOf n (L s) (rows_of c tables' below) s) (sym top_size) landed.table;
          by_sets = subst (λ s. BySets n (L s)) (sym top_size) (by_sets_means n (L size) Means landed.means moves);
        }

    -- every table stands
    pub all_stand : ((k : ℕ) → k < below → ∥ Stands c tables k ∥₁) → Stands (moved c (below + 1) (set c.sizes below size)) tables' below
        → (k : ℕ) → k < below + 1 → ∥ Stands (moved c (below + 1) (set c.sizes below size)) tables' k ∥₁
    unfolding new
    all_stand lower top k h = go (cases_lt k below)
      where
        go : (k < below) ⊎ (below ≤ k) → ∥ Stands (moved c (below + 1) (set c.sizes below size)) tables' k ∥₁
        go (inl l) = ∥∥₁_map (lower k l) (stands_same c (below + 1) (set c.sizes below size) tables tables' k (low_size k l) (low_cells k l))
        go (inr l) =
            let is : below ≡ k = omega arith in
            subst (λ j. ∥ Stands (moved c (below + 1) (set c.sizes below size)) tables' j ∥₁) is ∣ top ∣₁

    pub built : ((k : ℕ) → k < below → ∥ Stands c tables k ∥₁) → Stands (moved c (below + 1) (set c.sizes below size)) tables' below
        → Built below Same Means met size c tables (moved c (below + 1) (set c.sizes below size)) tables'
    unfolding new
    built lower top =
        let n : ℕ = c.sets in
        let c' : Control = moved c (below + 1) (set c.sizes below size) in
        record {
          settings = record { sets = refl; budget = refl; depth = refl };
          count = refl;
          others = λ k l.
              (low_size k l, says_same c (below + 1) (set c.sizes below size) tables tables' k (low_size k l) (low_cells k l) (fits_slot c tables k (lower k l)));
          means = subst (λ s. (w : List ℕ) → Columns n w → Decides (answers n s (rows_of c tables' below) w) (Means w)) (sym top_size) landed.means;
          met_few = landed.met_few;
          met_count = landed.met_count;
          kept_count = subst (Count n (SameResidual n (says c' tables' below))) top_size
              (table_counts n (says c' tables' below) (rows_of c tables' below) (size_of c' below) top.table);
          size = top_size;
          elsewhere = landed.elsewhere;
        }

-- ---- what a tray that can hold a table has room for

module _ (t : Tray) where
  -- the slot of a table that it can hold
  pub slot_within : (k : ℕ) → k < t.control.depth → Within t.control k (length t.tables.now)
  slot_within k h = record {
    sets = t.few_sets;
    budget = t.few_states;
    there = omega (arith, h, t.few_tables);
    slots = within_slots t.control.depth k (slot t.control) (length t.tables.now) h t.slots;
  }

-- ---- a building call whose new table was copied to its slot owes nothing more: every table stands, and one was built

module _ (t : Tray) (below : ℕ) (Same : List ℕ → List ℕ → Type 0) (Means : List ℕ → Type 0) (high : below < t.control.depth) (low : below ≤ t.control.count)
    (moves : (u w : List ℕ) → Columns t.control.sets u → Columns t.control.sets w → ((i : ℕ) → i < t.control.sets → coded i u ≡ coded i w) → Means u → Means w)
    (tables' : List ℕ) (met size : ℕ) (landed : Lands t.control.sets t.control.budget (below * slot t.control) Same Means t.tables.now tables' met size)
    (c' : Control) (is : c' ≡ moved t.control (below + 1) (set t.control.sizes below size))
  where
    within : below < length t.control.sizes
    within = omega (arith, t.sixteen, t.few_tables)

    lower : (k : ℕ) → k < below → ∥ Stands t.control t.tables.now k ∥₁
    lower k h = t.live k (omega arith)

    top : Stands (moved t.control (below + 1) (set t.control.sizes below size)) tables' below
    top = top_stands t.control t.tables.now tables' below Same Means met size landed within moves

    pub landed_call : ((k : ℕ) → k < c'.count → ∥ Stands c' tables' k ∥₁) × Built below Same Means met size t.control t.tables.now c' tables'
    landed_call = (
      subst (λ x. (k : ℕ) → k < x.count → ∥ Stands x tables' k ∥₁) (sym is)
          (all_stand t.control t.tables.now tables' below Same Means met size landed within lower top),
      subst (λ x. Built below Same Means met size t.control t.tables.now x tables') (sym is)
          (built t.control t.tables.now tables' below Same Means met size landed within lower top),
    )
