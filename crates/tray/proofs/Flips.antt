-- One mark more turned over, and what rows with turned marks describe.
use Rattle.std.proofs.Common.{◌≡◌, ℕ, ◌+◌, ◌*◌, ◌^◌, ◌<◌, ◌≤◌, cond, eqb, ◌⊎◌, List, length, get_or, drop, set, sym, ap, ◌∙◌, subst, inl, inr, arith}
use Rattle.std.proofs.lemmas.List.{get_or-drop, get_or-set_same, get_or-set_other}
use Rattle.std.proofs.lemmas.Bool.{cases_lt}
use Rattle.words.specs.Rows.{width, next_of, mark_of}
use Rattle.words.proofs.Cells.{same_cell, cell_below}
use Rattle.tables.specs.Tabulated.{Elsewhere}
use Rattle.tray.specs.Flipped.{mark_at, Flipped}

-- marks of two rows lie in two places
mark_apart : (n base i j : ℕ) → mark_at n base i ≡ mark_at n base j → i ≡ j
mark_apart n base i j e = (same_cell (width n) i (2 ^ n) j (2 ^ n) (omega arith) (omega arith) (omega arith)).0

module _ (n base j at value : ℕ) (tables now : List ℕ) (is : at ≡ mark_at n base j) (inside : at < length now) (before : Flipped n base j tables now)
    (turned : value ≡ cond (eqb (get_or now at 0) 1) 0 1)
  where
    here : get_or now at 0 ≡ get_or tables at 0
    here = before.others at (λ i h e. let same = mark_apart n base i j (sym e ∙ is) in omega arith)

    pub flip_more : Flipped n base (j + 1) tables (set now at value)
    flip_more = record {
      marks = λ i h. go i h (cases_lt i j);
      others = λ i other.
          get_or-set_other now at i value 0 (λ e. other j (omega arith) (e ∙ is)) ∙ before.others i (λ k h e. other k (omega arith) e);
    }
      where
        go : (i : ℕ) → i < j + 1 → (i < j) ⊎ (j ≤ i) → get_or (set now at value) (mark_at n base i) 0 ≡ cond (eqb (get_or tables (mark_at n base i) 0) 1) 0 1
        go i h (inl l) =
            get_or-set_other now at (mark_at n base i) value 0 (λ e. let same = mark_apart n base i j (e ∙ is) in omega arith) ∙ before.marks i l
        go i h (inr l) =
            let same : j ≡ i = omega arith in
            subst (λ k. get_or (set now at value) (mark_at n base k) 0 ≡ cond (eqb (get_or tables (mark_at n base k) 0) 1) 0 1) same
            (subst (λ x. get_or (set now at value) x 0 ≡ cond (eqb (get_or tables x 0) 1) 0 1) is
            (get_or-set_same now at value 0 inside ∙ turned ∙ ap (λ m. cond (eqb m 1) 0 1) here))

module _ (n base size : ℕ) (tables tables' : List ℕ) (flipped : Flipped n base size tables tables') where
  pub flipped_next : (j c : ℕ) → j < size → c < 2 ^ n → next_of n (drop base tables') j c ≡ next_of n (drop base tables) j c
  flipped_next j c hj hc =
      get_or-drop base tables' (j * width n + c) 0
      ∙ flipped.others (base + (j * width n + c))
      (λ k hk e. let same = (same_cell (width n) j c k (2 ^ n) (omega arith) (omega arith) (omega arith)).1 in omega arith)
      ∙ sym (get_or-drop base tables (j * width n + c) 0)

  pub flipped_mark : (j : ℕ) → j < size → mark_of n (drop base tables') j ≡ cond (eqb (mark_of n (drop base tables) j) 1) 0 1
  flipped_mark j h =
      get_or-drop base tables' (j * width n + 2 ^ n) 0 ∙ flipped.marks j h
      ∙ ap (λ m. cond (eqb m 1) 0 1) (sym (get_or-drop base tables (j * width n + 2 ^ n) 0))

  pub flipped_elsewhere : Elsewhere base (size * width n) tables tables'
  flipped_elsewhere = (
    λ i h. flipped.others i (λ j hj e. omega arith),
    λ i h. flipped.others i (λ j hj e. omega (arith, cell_below (width n) size j (2 ^ n) hj (omega arith))),
  )
