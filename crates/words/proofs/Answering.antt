-- A table accepts the words of its language, and is the table of the words that it accepts.
use Rattle.std.proofs.Common.{◌≡◌, ℕ, ◌^◌, ◌<◌, Bool, true, false, cond, ◌&&◌, eqb, ltb, List, [], ◌∷◌, ◌++◌, sym, refl, ap, ◌∙◌, subst}
use Rattle.std.proofs.lemmas.Bool.{lt-ltb, and_from, cond-true}
use Rattle.std.proofs.lemmas.List.{append-nil, append_assoc}
use Rattle.words.specs.Words.{Columns}
use Rattle.words.specs.Automata.{run}
use Rattle.words.specs.Rows.{written, next_of, mark_of}
use Rattle.words.specs.Residuals.{SameResidual}
use Rattle.words.specs.TableOf.{TableOf, answers}
use Rattle.words.proofs.Coding.{columns_push, columns_front, columns_last, columns_append}
use Rattle.words.proofs.Runs.{snoc_ind, run_push}

-- inside of the rows a written automaton goes by its cells
pub step_inside : (n size : ℕ) (rows : List ℕ) (s c : ℕ) → s < size → c < 2 ^ n → (written n size rows).step s c ≡ next_of n rows s c
step_inside n size rows s c hs hc =
    cond-true (ltb s size && ltb c (2 ^ n)) (next_of n rows s c) 0 (and_from (ltb s size) (ltb c (2 ^ n)) (lt-ltb s size hs) (lt-ltb c (2 ^ n) hc))

mark_tells : (b : Bool) → eqb (cond b 1 0) 1 ≡ b
mark_tells true = refl
mark_tells false = refl

pub accepts_inside : (n size : ℕ) (rows : List ℕ) (s : ℕ) (b : Bool) → s < size → mark_of n rows s ≡ cond b 1 0 → (written n size rows).accepts s ≡ b
accepts_inside n size rows s b h is =
    ap (λ t. t && eqb (mark_of n rows s) 1) (lt-ltb s size h) ∙ ap (λ x. eqb x 1) is ∙ mark_tells b

module _ (n : ℕ) (L : List ℕ → Bool) (rows : List ℕ) (size : ℕ) (t : TableOf n L rows size) where
  -- the state after a word has its residual
  After : List ℕ → Type 0
  After w = Columns n w
      → (run (written n size rows).step 0 w < size) × SameResidual n L w (t.first (run (written n size rows).step 0 w))

  after_nil : After []
  unfolding After
  after_nil cs = (t.some, λ v vs. ap (λ u. L (u ++ v)) (sym t.start))

  after_push : (u : List ℕ) (c : ℕ) → After u → After (u ++ c ∷ [])
  unfolding After
  after_push u c before cs =
      let here = before (columns_front n u c cs) in
      let small : c < 2 ^ n = columns_last n u c cs in
      let j : ℕ = run (written n size rows).step 0 u in
      let there : run (written n size rows).step 0 (u ++ c ∷ []) ≡ next_of n rows j c =
      run_push (written n size rows).step 0 u c ∙ step_inside n size rows j c here.0 small in
      let goes = t.next j c here.0 small in
      subst (λ x. (x < size) × SameResidual n L (u ++ c ∷ []) (t.first x)) (sym there) (
        goes.0,
        λ v vs.
            ap L (append_assoc u (c ∷ []) v) ∙ here.1 (c ∷ v) (small, vs) ∙ ap L (sym (append_assoc (t.first j) (c ∷ []) v)) ∙ goes.1 v vs,
      )

  after : (w : List ℕ) → After w
  after = snoc_ind After after_nil after_push

  pub state_after : (w : List ℕ) → Columns n w
      → (run (written n size rows).step 0 w < size) × SameResidual n L w (t.first (run (written n size rows).step 0 w))
  unfolding After
  state_after = after

  pub table_answers : (w : List ℕ) → Columns n w → answers n size rows w ≡ L w
  unfolding After
  table_answers w cs =
      let here = after w cs in
      let j : ℕ = run (written n size rows).step 0 w in
      accepts_inside n size rows j (L (t.first j)) here.0 (t.mark j here.0)
      ∙ ap L (sym (append-nil (t.first j))) ∙ sym (here.1 [] tt) ∙ ap L (append-nil w)

-- languages that agree on words of columns have the same table
pub table_of_same : (n : ℕ) (L M : List ℕ → Bool) (rows : List ℕ) (size : ℕ) → ((w : List ℕ) → Columns n w → L w ≡ M w) → TableOf n L rows size → TableOf n M rows size
table_of_same n L M rows size same t = record {
  first = t.first;
  some = t.some;
  columns = t.columns;
  start = t.start;
  ordered = t.ordered;
  different = λ i j hi hj h. t.different i j hi hj (back (t.first i) (t.first j) (t.columns i hi) (t.columns j hj) h);
  every = λ w cs. let x = t.every w cs in (x.0, x.1, forth w (t.first x.0) cs (t.columns x.0 x.1) x.2, x.3);
  next = λ j c hj hc.
      let x = t.next j c hj hc in
      (x.0, forth (t.first j ++ c ∷ []) (t.first (next_of n rows j c)) (columns_push n (t.first j) c (t.columns j hj) hc) (t.columns (next_of n rows j c) x.0) x.1);
  mark = λ j h. t.mark j h ∙ ap (λ b. cond b 1 0) (same (t.first j) (t.columns j h));
}
  where
    forth : (u w : List ℕ) → Columns n u → Columns n w → SameResidual n L u w → SameResidual n M u w
    forth u w cu cw h v cv = sym (same (u ++ v) (columns_append n u v cu cv)) ∙ h v cv ∙ same (w ++ v) (columns_append n w v cw cv)

    back : (u w : List ℕ) → Columns n u → Columns n w → SameResidual n M u w → SameResidual n L u w
    back u w cu cw h v cv = same (u ++ v) (columns_append n u v cu cv) ∙ h v cv ∙ sym (same (w ++ v) (columns_append n w v cw cv))

-- so it is the table of the words that it accepts
pub table_of_answers : (n : ℕ) (L : List ℕ → Bool) (rows : List ℕ) (size : ℕ) → TableOf n L rows size → TableOf n (answers n size rows) rows size
table_of_answers n L rows size t = table_of_same n L (answers n size rows) rows size (λ w cs. sym (table_answers n L rows size t w cs)) t
