-- From the bare fact that rows are the table of a language, the table's record: the rows and the language determine its first words.
use Rattle.std.proofs.Common.{◌≡◌, ℕ, ◌^◌, ◌<◌, Bool, true, false, cond, ltb, ◌⊎◌, List, [], ◌∷◌, ◌++◌, sym, refl, ap, ◌∙◌, subst, subst₂, inl, inr, lt_trans}
use native.Mathlib.Nat.{ℕ_set}
use native.Mathlib.Bridge.{le_prop}
use mathlib.Core.HLevel.{⊥_prop, Unit-prop, Π_prop, →_prop, ×_prop, Σ_prop_path}
use mathlib.Core.Logic.{∥∥₁_elim, ∥∥₁_map}
use mathlib.Core.Bool.{Bool-set}
use mathlib.Core.List.{is_set}
use Rattle.std.proofs.lemmas.Bool.{ltb-true, lt-ltb, cond-true}
use Rattle.words.specs.Words.{Columns}
use Rattle.words.specs.Order.{Precedes, NotLater}
use Rattle.words.specs.Automata.{run}
use Rattle.words.specs.Rows.{written, next_of, mark_of}
use Rattle.words.specs.Residuals.{SameResidual}
use Rattle.words.specs.TableOf.{TableOf}
use Rattle.words.proofs.Orders.{never, chain, word_order}
use Rattle.words.proofs.Answering.{state_after}
use Rattle.words.proofs.FirstWords.{not_earlier}
use Rattle.words.proofs.TableLaws.{level}
use Rattle.words.specs.Described.{language_of, IsTable}
use Rattle.words.specs.declared.table.Table.{Table}

-- ---- what has at most one proof, or can be decided, can be had again from the bare fact

words_set : IsSet (List ℕ)
words_set = is_set ℕ_set

columns_prop : (n : ℕ) (w : List ℕ) → IsProp (Columns n w)
columns_prop n [] = Unit-prop
columns_prop n (c ∷ w) = ×_prop le_prop (columns_prop n w)

residual_prop : (n : ℕ) (L : List ℕ → Bool) (u w : List ℕ) → IsProp (SameResidual n L u w)
residual_prop n L u w = Π_prop (λ v. →_prop (Bool-set (L (u ++ v)) (L (w ++ v))))

-- no word is before one that is not later
not_both : (u w : List ℕ) → NotLater u w → Precedes w u → ⊥
not_both u w (inl e) q = never u (subst (λ x. Precedes x u) (sym e) q)
not_both u w (inr p) q = never u (chain u w u p q)

precedes_again : (u w : List ℕ) → ∥ Precedes u w ∥₁ → Precedes u w
precedes_again u w p = go (word_order.total u w)
  where
    go : (u ≡ w) ⊎ (Precedes u w ⊎ Precedes w u) → Precedes u w
    go (inl e) = absurd (∥∥₁_elim p ⊥_prop (not_both w u (inl (sym e))))
    go (inr (inl q)) = q
    go (inr (inr q)) = absurd (∥∥₁_elim p ⊥_prop (λ r. not_both u w (inr r) q))

not_later_again : (u w : List ℕ) → ∥ NotLater u w ∥₁ → NotLater u w
not_later_again u w p = go (word_order.total u w)
  where
    go : (u ≡ w) ⊎ (Precedes u w ⊎ Precedes w u) → NotLater u w
    go (inl e) = inl e
    go (inr (inl q)) = inr q
    go (inr (inr q)) = absurd (∥∥₁_elim p ⊥_prop (λ r. not_both u w r q))

-- the value of a function with the same value everywhere, from the bare fact that it has an argument
one_value : {A B : Type 0} → IsSet B → (f : A → B) → ((a b : A) → f a ≡ f b) → ∥ A ∥₁ → (y : B) × ((a : A) → y ≡ f a)
one_value {A} {B} set f same x = ∥∥₁_elim x only (λ a. (f a, same a))
  where
    only : IsProp ((y : B) × ((a : A) → y ≡ f a))
    only u v = Σ_prop_path (λ y. Π_prop (λ a. set y (f a))) (∥∥₁_elim x (set u.0 v.0) (λ a. u.1 a ∙ sym (v.1 a)))

-- ---- the first words

cond_same : (b : Bool) (u w : List ℕ) → (b ≡ true → u ≡ w) → cond b u [] ≡ cond b w []
cond_same true u w same = same refl
cond_same false u w same = refl

module _ (n : ℕ) (L : List ℕ → Bool) (rows : List ℕ) (size : ℕ) where
  -- the state to which a word leads
  abbrev after : List ℕ → ℕ
  after w = run (written n size rows).step 0 w

  -- its first word is not later
  after_not_later : (t : TableOf n L rows size) (w : List ℕ) → Columns n w → NotLater (t.first (after w)) w
  after_not_later t w cs =
      let here = state_after n L rows size t w cs in
      not_earlier n L rows size t (after w) w here.0 cs here.1

  -- the first word of a state leads to it
  after_first : (t : TableOf n L rows size) (j : ℕ) → j < size → after (t.first j) ≡ j
  after_first t j h =
      let here = state_after n L rows size t (t.first j) (t.columns j h) in
      t.different (after (t.first j)) j here.0 h (λ v vs. sym (here.1 v vs))

  first_not_later : (t s : TableOf n L rows size) (j : ℕ) → j < size → NotLater (t.first j) (s.first j)
  first_not_later t s j h =
      subst (λ i. NotLater (t.first i) (s.first j)) (after_first s j h) (after_not_later t (s.first j) (s.columns j h))

  -- so two tables with the same rows have the same first words
  same_first : (t s : TableOf n L rows size) (j : ℕ) → j < size → t.first j ≡ s.first j
  same_first t s j h = level (t.first j) (s.first j) (first_not_later t s j h) (first_not_later s t j h)

  module _ (x : ∥ TableOf n L rows size ∥₁) where
    -- the first word of state j in all of them, and nothing behind the last state
    word : (j : ℕ) → (w : List ℕ) × ((t : TableOf n L rows size) → w ≡ cond (ltb j size) (t.first j) [])
    word j =
        one_value words_set (λ t. cond (ltb j size) (t.first j) [])
        (λ t s. cond_same (ltb j size) (t.first j) (s.first j) (λ e. same_first t s j (ltb-true j size e))) x

    first : ℕ → List ℕ
    first j = (word j).0

    is_first : (t : TableOf n L rows size) (j : ℕ) → j < size → first j ≡ t.first j
    unfolding first
    is_first t j h = (word j).1 t ∙ cond-true (ltb j size) (t.first j) [] (lt-ltb j size h)

    -- ---- the table

    every_again : (w : List ℕ) → Columns n w → (j : ℕ) × (j < size) × SameResidual n L w (first j) × NotLater (first j) w
    every_again w cs = (
      after w,
      within,
      ∥∥₁_elim x (residual_prop n L w (first (after w)))
          (λ t. subst (SameResidual n L w) (sym (is_first t (after w) within)) (state_after n L rows size t w cs).1),
      not_later_again (first (after w)) w
          (∥∥₁_map x (λ t. subst (λ u. NotLater u w) (sym (is_first t (after w) within)) (after_not_later t w cs))),
    )
      where
        within : after w < size
        within = ∥∥₁_elim x le_prop (λ t. (state_after n L rows size t w cs).0)

    next_again : (j c : ℕ) → j < size → c < 2 ^ n
        → (next_of n rows j c < size) × SameResidual n L (first j ++ c ∷ []) (first (next_of n rows j c))
    next_again j c hj hc =
        ∥∥₁_elim x (×_prop le_prop (residual_prop n L (first j ++ c ∷ []) (first (next_of n rows j c))))
        (λ t.
        let goes = t.next j c hj hc in (
          goes.0,
          subst₂ (λ u w. SameResidual n L (u ++ c ∷ []) w)
              (sym (is_first t j hj)) (sym (is_first t (next_of n rows j c) goes.0)) goes.1,
        ))

    again : TableOf n L rows size
    again = record {
      first = first;
      some = ∥∥₁_elim x le_prop (λ t. t.some);
      columns = λ j h. ∥∥₁_elim x (columns_prop n (first j)) (λ t. subst (Columns n) (sym (is_first t j h)) (t.columns j h));
      start = ∥∥₁_elim x (words_set (first 0) []) (λ t. is_first t 0 t.some ∙ t.start);
      ordered = λ i j low h.
          precedes_again (first i) (first j)
          (∥∥₁_map x (λ t. subst₂ Precedes (sym (is_first t i (lt_trans low h))) (sym (is_first t j h)) (t.ordered i j low h)));
      different = λ i j hi hj same.
          ∥∥₁_elim x (ℕ_set i j) (λ t. t.different i j hi hj (subst₂ (SameResidual n L) (is_first t i hi) (is_first t j hj) same));
      every = every_again;
      next = next_again;
      mark = λ j h.
          ∥∥₁_elim x (ℕ_set (mark_of n rows j) (cond (L (first j)) 1 0))
          (λ t. t.mark j h ∙ ap (λ w. cond (L w) 1 0) (sym (is_first t j h)));
    }

pub recovered : (n : ℕ) (L : List ℕ → Bool) (rows : List ℕ) (size : ℕ) → ∥ TableOf n L rows size ∥₁ → TableOf n L rows size
recovered = again

-- what a table keeps true
pub table_of : (t : Table) → IsTable t.rows
table_of t = recovered t.rows.places (language_of t.rows) t.rows.cells.now t.rows.states t.is_table
