-- Lowest states, found by looking upwards, and the passes and rounds that name classes by them.
use Rattle.std.proofs.Common.{◌≡◌, ℕ, zero, suc, ◌+◌, ◌^◌, ◌<◌, ◌≤◌, Bool, true, false, not, ◌||◌, List, length, Option, None, Some, MatchOption, unwrap_or, slice_index, slice_set, nat_eq, ◌≢◌, get_or-set_other, get_or-set_same, sym, refl, ap, ◌∙◌, subst, ⊎_elim, arith, below_more}
use Rattle.std.proofs.lemmas.Bool.{cases_lt, cases_eq, true≢false, not-false, not_from_true, or_parts, or_cases}
use Rattle.std.proofs.lemmas.Bool.Decides.{Decides-eqb}
use Rattle.std.proofs.lemmas.Grind.{same_number_lists}
use Rattle.std.proofs.lemmas.Iterator.{first_from_Range}
use Rattle.std.proofs.lemmas.Slice.Eq.{slice_eq-Decides}
use Rattle.std.proofs.iter.Yields.{nat_range_steps}
use Rattle.std.specs.Borrow.{Bor}
use Rattle.std.specs.Cmp.Lexicographic.{pointwise}
use Rattle.std.specs.Fn.{CalledAt}
use Rattle.std.specs.Iterator.{YieldsThen}
use Rattle.std.specs.List.{FoldsTo}
use Rattle.std.specs.declared.ops.Range.{Range}
use denote.Param.Members.{Mut}
use Rattle.words.specs.Described.{described}
use Rattle.words.proofs.Merging.{Lowest, Alike, pass_classes, pass_stable, fresh_up, fresh_low, slack, slack_less}
use Rattle.tables.specs.Classing.{Classed}
use Rattle.tables.specs.Refined.{Settled, Refines, left}
use Rattle.tables.specs.declared.merging.Classes.{Classes}

-- what holds of the first k numbers, and of v, holds of the first k + 1 once v is written at k
pub more_set : (P : ℕ → ℕ → Type 0) (xs : List ℕ) (k v : ℕ) → k < length xs → ((i : ℕ) → i < k → P i (slice_index xs i)) → P k v
    → (i : ℕ) → i < k + 1 → P i (slice_index (slice_set xs k v) i)
more_set P xs k v room before here =
    below_more _ k
    (λ i h. let other : i ≢ k = omega arith in rw get_or-set_other (before i h))
    (rw get_or-set_same here)

lowest_first : (P : ℕ → Type 0) (low s : ℕ) → P s → ((u : ℕ) → u < low → P u → ⊥) → (found : Option ℕ)
    → MatchOption found ((u : ℕ) → low ≤ u → u < s → P u → ⊥) (λ r. (low ≤ r) × (r < s) × P r × ((u : ℕ) → low ≤ u → u < r → P u → ⊥))
    → Lowest P (unwrap_or found s)
lowest_first P low s here none None h =
    (here, λ u l. ⊎_elim (none u) (λ m. h u m l) (cases_lt u low))
lowest_first P low s here none (Some r) h =
    (h.2, λ u l. ⊎_elim (none u) (λ m. h.3 u m l) (cases_lt u low))

-- what `find` gives from `low` on and below s, or else s, is the lowest number with P: s has it, and none below `low`
pub lowest_from_find : {F : Type 0} {g : Mut F (Bor ℕ × Unit {0}) Bool} (P : ℕ → Type 0) (low s : ℕ) → P s → ((u : ℕ) → u < low → P u → ⊥)
    → (t : Range ℕ) (f : F) (found : Option ℕ)
    → (xs : List ℕ) × (j : F) × YieldsThen nat_range_steps (record { start = low; end = s }) xs found t × FoldsTo (λ p x q. CalledAt g p x false q) f xs j
    × MatchOption found (Unit {0}) (λ x. (h : F) × CalledAt g j x true h)
    → ((x : ℕ) (q : F) → CalledAt g f x true q → P x) → ((x : ℕ) (q : F) → CalledAt g f x false q → (q ≡ f) × (P x → ⊥))
    → (r : ℕ) → r ≡ unwrap_or found s → Lowest P r
lowest_from_find P low s here none t f found ran has lacks r is =
    subst (Lowest P) (sym is) (lowest_first P low s here none found (first_from_Range (record { start = low; end = s }) t f found P (λ x. P x → ⊥) ran has lacks))

-- ---- a pass

-- two functions that are not the same below k differ somewhere
differ : (k : ℕ) (f g : ℕ → ℕ) → (((s : ℕ) → s < k → f s ≡ g s) → ⊥) → (s : ℕ) × (s < k) × (f s ≡ g s → ⊥)
differ zero f g other = absurd (other (λ s h. absurd (omega arith)))
differ (suc k) f g other =
    ⊎_elim (λ e. let x = differ k f g (λ same. other (λ s h. below_more (λ u. f u ≡ g u) k same e s (omega arith))) in (x.0, omega (arith, x.1), x.2))
    (λ d. (k, omega arith, d)) (cases_eq (f k) (g k))

-- the same classes of the same rows
module _ (a b : Classes) (rows : b.rows ≡ a.rows) (classes : b.class.now ≡ a.class.now) where
  same_left : left b ≡ left a
  same_left = rw (rows, classes)

  same_settled : (c : ℕ) → Settled a c → Settled b c
  same_settled c h = rw (rows, classes) h

-- what is told to be no other is the same
pub same_unless : (fresh class : List ℕ) (found : Bool) → found ≡ not (pointwise nat_eq fresh class) → found ≡ false → class ≡ fresh
same_unless fresh class found e f = sym ((slice_eq-Decides Decides-eqb fresh class _ refl).0 (not-false _ (sym e ∙ f)))

-- the new classes of a pass
module _ (k : Classes) (c : ℕ) (small : c < 2 ^ k.rows.places) (fresh : List ℕ)
    (lowest : (s : ℕ) → s < k.rows.states → Lowest (Alike (described k.rows).step (slice_index k.class.now) c s) (slice_index fresh s))
  where
    stay : (s : ℕ) → s < k.rows.states → (described k.rows).step s c < k.rows.states
    stay s h = k.closed s c h small

    pub pass_classed : Classed k.rows fresh
    pass_classed = pass_classes _ _ _ _ _ k.classed c small stay lowest

    settled : fresh ≡ k.class.now → Settled k c
    settled same = pass_stable _ _ _ _ _ k.classed c small stay lowest (λ s h. ap (λ f. slice_index f s) same)

    finer : length fresh ≡ k.rows.states → (fresh ≡ k.class.now → ⊥) → slack k.rows.states (slice_index fresh) < left k
    finer long other =
        let x = differ k.rows.states (slice_index fresh) (slice_index k.class.now)
        (λ same. other (same_number_lists fresh k.class.now (long ∙ sym k.room.0) (λ s h. same s (omega (arith, long))))) in
        slack_less _ _ _ (fresh_up _ _ _ _ _ k.classed c small stay lowest) (fresh_low _ _ _ _ _ k.classed c small stay lowest) x.0 x.1 x.2

    pub pass_refines : length fresh ≡ k.rows.states → (new : Classes) → new.rows ≡ k.rows → new.class.now ≡ fresh
        → (found : Bool) → found ≡ not (pointwise nat_eq fresh k.class.now) → Refines k (λ d. d ≡ c) new found
    pass_refines long new rows is found e =
        let same = slice_eq-Decides Decides-eqb fresh k.class.now _ refl in
        record {
          rows = rows;
          none = λ f.
              let as_before = same.0 (not-false _ (sym e ∙ f)) in
              (is ∙ as_before, λ d at. same_settled k new rows (is ∙ as_before) d (subst (Settled k) (sym at) (settled as_before)));
          some = λ f. rw (rows, is) (finer long (λ as_before. true≢false (sym f ∙ e ∙ not_from_true _ (same.1 as_before))));
        }

-- ---- a round, column by column

left_falls : {P : ℕ → Type 0} {a b : Classes} (found : Bool) → Refines a P b found → left b ≤ left a
left_falls true h = omega (arith, h.some refl)
left_falls {a} {b} false h = omega (arith, same_left a b h.rows (h.none refl).0)

pub refines_more : {a b d : Classes} {k : ℕ} {found more : Bool} → Refines a (λ c. c < k) b found → Refines b (λ c. c ≡ k) d more
    → Refines a (λ c. c < k + 1) d (found || more)
refines_more {a} {b} {d} {k} {found} {more} before pass = record {
  rows = pass.rows ∙ before.rows;
  none = λ e.
      let neither = or_parts found more e in
      let first = before.none neither.0 in
      let last = pass.none neither.1 in
      (last.0 ∙ first.0, below_more (Settled d) k (λ c h. same_settled b d pass.rows last.0 c (first.1 c h)) (last.1 k refl));
  some = λ e.
      ⊎_elim (λ f. omega (arith, before.some f, left_falls more pass)) (λ m. omega (arith, pass.some m, left_falls found before))
      (or_cases found more e);
}
