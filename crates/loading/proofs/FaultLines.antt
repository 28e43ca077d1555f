-- The line that a fault of a text names.
use Rattle.std.proofs.Common.{◌≡◌, ℕ, cond, eqb, ◌+◌, ◌*◌, ◌^◌, ◌<◌, ◌≤◌, List, [], ◌∷◌, length, get_or, Ok, Err, Result, inl, inr, ⊎_elim, refl, sym, ap, ap₂, ◌∙◌, subst, arith}
use Rattle.std.specs.Prelude.{IfErr}
use Rattle.std.proofs.lemmas.Bool.{cases_lt}
use Rattle.std.proofs.Math.Seq.{get_or-append_seam}
use Rattle.words.specs.Rows.{width, mark_of}
use Rattle.words.proofs.Cells.{cell_below}
use Rattle.tray.specs.Checks.{FirstFailed}
use Rattle.loading.specs.declared.draft.Draft.{Draft}
use Rattle.loading.specs.declared.loaded.Loaded.{Loaded}
use Rattle.loading.specs.declared.reading.Fault.{Fault}
use Rattle.loading.specs.declared.unloaded.Unloaded.{Unloaded}
use Rattle.loading.specs.declared.unloaded.Unloaded.TheVariants.{NoMemory, NoName, WrongNames, WrongLine, NoState, Unsettled, NoRow, Full}
use Rattle.loading.specs.Cutting.{cut}
use Rattle.loading.specs.Drafts.{TakesRow, begin_checks, row_checks, seal_checks, room}
use Rattle.loading.specs.Faults.{StandsAt}
use Rattle.loading.specs.Numbers.{number_of}
use Rattle.loading.specs.Whole.{Loads, Reads, Takes}
use Rattle.loading.proofs.Cuttings.{takes_rows}
use Rattle.loading.proofs.NeverRefused.{length_kept}
use Rattle.loading.proofs.Rewritten.{kept, put_inside, row_within, row_long, same_places}

-- ---- a reason from its number

reason : ℕ → Unloaded
reason k =
    cond (eqb k 4) NoMemory (cond (eqb k 10) NoName (cond (eqb k 16) WrongNames (cond (eqb k 17) WrongLine
    (cond (eqb k 18) NoState (cond (eqb k 19) Unsettled (cond (eqb k 24) NoRow Full))))))

reason_is : (r : Unloaded) → reason (number_of r) ≡ r
unfolding reason
reason_is NoMemory = refl
reason_is NoName = refl
reason_is WrongNames = refl
reason_is WrongLine = refl
reason_is NoState = refl
reason_is Unsettled = refl
reason_is NoRow = refl
reason_is Full = refl

-- a reason of this number stands where that one does
stands : (r why : Unloaded) (line : ℕ) → number_of why ≡ number_of r → StandsAt r line → StandsAt why line
stands r why line number at = subst (λ x. StandsAt x line) (sym (reason_is r) ∙ ap reason (sym number) ∙ reason_is why) at

-- ---- the marks of rows that were taken are 0 or 1

marks : (d : Draft) (memory : List ℕ) (lines : List (List ℕ)) (e : Draft) (m : List ℕ) → Takes d memory lines e m
    → ((r : ℕ) → r < d.rows → mark_of d.places memory r ≤ 1) → (r : ℕ) → r < e.rows → mark_of e.places m r ≤ 1
marks d memory [] e m taken small =
    subst (λ (x : Draft). (r : ℕ) → r < x.rows → mark_of x.places m r ≤ 1) (sym taken.0)
    (subst (λ x. (r : ℕ) → r < d.rows → mark_of d.places x r ≤ 1) (sym taken.1) small)
marks d memory (line ∷ lines) e m taken small = marks taken.0 taken.1 lines e m taken.3 each
  where
    row : TakesRow d memory line taken.0 taken.1 (Ok tt)
    row = taken.2

    inside : 2 ^ d.places < width d.places
    inside = omega arith

    long : length row.3 ≡ width d.places
    long = row_long d.places d.rows line row.3 row.4

    earlier : (r : ℕ) → r < d.rows → mark_of d.places taken.1 r ≤ 1
    earlier r h =
        let x : ℕ = r * width d.places + 2 ^ d.places in
        omega (
          arith,
          kept d memory (line ∷ []) taken.0 taken.1 (taken.0, taken.1, row, (refl, refl)) x (cell_below (width d.places) d.rows r (2 ^ d.places) h inside),
          small r h,
        )

    last : mark_of d.places taken.1 d.rows ≤ 1
    last =
        omega (
          arith,
          put_inside (d.rows * width d.places) row.3 memory taken.1 row.5 (row_within d memory line taken.0 taken.1 row) (2 ^ d.places) (omega (arith, long)),
          ap₂ (λ l j. get_or l j 0) row.4.6 (sym row.4.2),
          get_or-append_seam row.4.0 row.4.1 [] 0,
          row.4.4,
        )

    each : (r : ℕ) → r < taken.0.rows → mark_of taken.0.places taken.1 r ≤ 1
    each r h =
        subst (λ k. mark_of k taken.1 r ≤ 1) (sym row.1)
        (⊎_elim (λ l. earlier r l) (λ l. let is : d.rows ≡ r = omega (arith, h, row.2) in subst (λ x. mark_of d.places taken.1 x ≤ 1) is last) (cases_lt r d.rows))

-- ---- the line of each fault

module _ (text memory : List ℕ) where
  begun_at : (why : Unloaded) → FirstFailed (begin_checks ((cut text).0) (length memory)) (number_of why) → StandsAt why 1
  begun_at why (inl h) = stands WrongNames why 1 h.0 refl
  begun_at why (inr (p, inl h)) = stands NoMemory why 1 h.0 refl
  begun_at why (inr (p, inr h)) = absurd h.1

  module _ (d : Draft) (lines : List (List ℕ)) (e : Draft) (m rest : List ℕ) (reads : Reads text memory d lines e m rest) where
    enough : length m < room e.places → ⊥
    enough short =
        let l : length m < room d.places = subst (λ k. length m < room k) (same_places d memory lines e m reads.2) short in
        reads.0.0.1.0 (d.places, reads.0.1, omega (arith, l, length_kept d memory lines e m reads.2))

    count : e.rows ≡ length lines
    count = omega (arith, takes_rows d memory lines e m reads.2, reads.0.2)

    row_at : (why : Unloaded) → FirstFailed (row_checks e (length m) (cut rest).0) (number_of why) → StandsAt why (length lines + 2)
    row_at why (inl h) = absurd (enough h.1)
    row_at why (inr (p, inl h)) = stands Full why (length lines + 2) h.0 (omega (arith, h.1, e.few_rows, count))
    row_at why (inr (p, inr (q, inl h))) =
        stands WrongLine why (length lines + 2) h.0 (omega arith, ⊎_elim (λ l. omega (arith, l, count)) (λ l. absurd (q l)) (cases_lt e.rows 512))
    row_at why (inr (p, inr (q, inr h))) = absurd h.1

    none_yet : (r : ℕ) → r < d.rows → mark_of d.places memory r ≤ 1
    none_yet r h = absurd (omega (arith, h, reads.0.2))

    seal_at : (name : List ℕ) (why : Unloaded) → FirstFailed (seal_checks e m name) (number_of why) → StandsAt why 0
    seal_at name why (inl h) = absurd (enough h.1)
    seal_at name why (inr (p, inl h)) = stands NoName why 0 h.0 refl
    seal_at name why (inr (p, inr (q, inl h))) = stands NoRow why 0 h.0 refl
    seal_at name why (inr (p, inr (q, inr (u, inl h)))) = absurd (omega (arith, h.1.2, marks d memory lines e m reads.2 none_yet h.1.0 h.1.1))
    seal_at name why (inr (p, inr (q, inr (u, inr (v, inl h))))) = stands NoState why 0 h.0 refl
    seal_at name why (inr (p, inr (q, inr (u, inr (v, inr (x, inl h)))))) = stands Unsettled why 0 h.0 refl
    seal_at name why (inr (p, inr (q, inr (u, inr (v, inr (x, inr h)))))) = absurd h.1

-- whatever load answers
pub fault_stands : (text memory name : List ℕ) (b : Loaded) (m : List ℕ) (b' : Loaded) (r : Result (Unit {0}) Fault) → Loads text memory name b m b' r
    → IfErr r (λ f. StandsAt f.why f.line)
fault_stands text memory name b m b' (Ok done) loads = tt
fault_stands text memory name b m b' (Err f) loads =
    ⊎_elim
    (λ x. subst (StandsAt f.why) (sym x.0) (begun_at text memory f.why x.1))
    (λ y. ⊎_elim
    (λ x. subst (StandsAt f.why) (sym x.7) (row_at text memory x.0 x.1 x.2 x.3 x.4 x.5 f.why x.8.0))
    (λ x. subst (StandsAt f.why) (sym x.5) (subst (λ w. StandsAt w 0) (sym x.6) (seal_at text memory x.0 x.1 x.2 m [] x.4 name x.3.why x.7.0)))
    y)
    loads.1
