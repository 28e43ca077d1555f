-- Rows that agree in the cells of the first states: they describe the same automaton, and are the table of the same language.
use Rattle.std.proofs.Common.{◌≡◌, ℕ, ◌+◌, ◌*◌, ◌^◌, ◌<◌, Bool, true, false, cond, ◌&&◌, eqb, ltb, List, [], ◌∷◌, ◌++◌, get_or, sym, refl, ap, ◌∙◌, subst, arith}
use Rattle.std.proofs.lemmas.Bool.{and_parts, ltb-true}
use Rattle.words.specs.Automata.{run}
use Rattle.words.specs.Rows.{width, written, next_of, mark_of}
use Rattle.words.specs.Residuals.{SameResidual}
use Rattle.words.specs.TableOf.{TableOf, answers}
use Rattle.words.proofs.Cells.{cell_below}

cond_same : {A : Type 0} (b : Bool) (x y z : A) → (b ≡ true → x ≡ y) → cond b x z ≡ cond b y z
cond_same true x y z e = e refl
cond_same false x y z e = refl

and_same : (b x y : Bool) → (b ≡ true → x ≡ y) → (b && x) ≡ (b && y)
and_same true x y e = e refl
and_same false x y e = refl

run_same : (f g : ℕ → ℕ → ℕ) → ((s c : ℕ) → f s c ≡ g s c) → (s : ℕ) (w : List ℕ) → run f s w ≡ run g s w
run_same f g same s [] = refl
run_same f g same s (c ∷ w) = ap (λ x. run f x w) (same s c) ∙ run_same f g same (g s c) w

module _ (n size : ℕ) (rows rows' : List ℕ) (same : (x : ℕ) → x < size * width n → get_or rows' x 0 ≡ get_or rows x 0) where
  pub copied_next : (j c : ℕ) → j < size → c < 2 ^ n → next_of n rows' j c ≡ next_of n rows j c
  copied_next j c hj hc = same (j * width n + c) (cell_below (width n) size j c hj (omega arith))

  pub copied_mark : (j : ℕ) → j < size → mark_of n rows' j ≡ mark_of n rows j
  copied_mark j hj = same (j * width n + 2 ^ n) (cell_below (width n) size j (2 ^ n) hj (omega arith))

  copied_step : (s c : ℕ) → (written n size rows').step s c ≡ (written n size rows).step s c
  copied_step s c =
      cond_same (ltb s size && ltb c (2 ^ n)) (next_of n rows' s c) (next_of n rows s c) 0
      (λ e.
      let both = and_parts (ltb s size) (ltb c (2 ^ n)) e in
      copied_next s c (ltb-true s size both.0) (ltb-true c (2 ^ n) both.1))

  copied_accepts : (s : ℕ) → (written n size rows').accepts s ≡ (written n size rows).accepts s
  copied_accepts s = and_same (ltb s size) (eqb (mark_of n rows' s) 1) (eqb (mark_of n rows s) 1) (λ e. ap (λ x. eqb x 1) (copied_mark s (ltb-true s size e)))

  pub copied_answers : (w : List ℕ) → answers n size rows' w ≡ answers n size rows w
  copied_answers w =
      ap (written n size rows').accepts (run_same (written n size rows').step (written n size rows).step copied_step 0 w)
      ∙ copied_accepts (run (written n size rows).step 0 w)

  pub copied_table : (L : List ℕ → Bool) → TableOf n L rows size → TableOf n L rows' size
  copied_table L t = record {
    first = t.first;
    some = t.some;
    columns = t.columns;
    start = t.start;
    ordered = t.ordered;
    different = t.different;
    every = t.every;
    next = λ j c hj hc.
        subst (λ x. (x < size) × SameResidual n L (t.first j ++ c ∷ []) (t.first x)) (sym (copied_next j c hj hc)) (t.next j c hj hc);
    mark = λ j h. copied_mark j h ∙ t.mark j h;
  }
