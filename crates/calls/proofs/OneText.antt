-- A formula has one text: that of its table.
use Rattle.std.proofs.Common.{◌≡◌, ℕ, zero, suc, ◌^◌, ◌<◌, cond, ◌&&◌, eqb, ltb, List, [], ◌∷◌, ◌++◌, map, decimal, sym, refl, ap, ◌∙◌, ap₂, arith}
use Rattle.std.specs.List.{flat_map}
use Rattle.std.proofs.lemmas.List.{map-append}
use Rattle.std.proofs.lemmas.Grind.{flat_map-append}
use Rattle.std.proofs.lemmas.Bool.Decides.{same_from_decides}
use Rattle.words.specs.Rows.{written, next_of, mark_of}
use Rattle.words.specs.Formulas.{Formula}
use Rattle.words.specs.TableOf.{TableOf}
use Rattle.words.specs.Meanings.{FormulaTable}
use Rattle.words.proofs.Answering.{table_of_same}
use Rattle.words.proofs.TableLaws.{same_size, same_next, same_mark}
use Rattle.saving.specs.TableText.{numbers, line_of, names_line, row_line, table_text}
use Rattle.calls.specs.Owed.{FormulaText}

-- ---- what two functions that agree below k give of the numbers below k

map_numbers : (f g : ℕ → ℕ) (k : ℕ) → ((j : ℕ) → j < k → f j ≡ g j) → map f (numbers k) ≡ map g (numbers k)
map_numbers f g zero same = refl
map_numbers f g (suc k) same =
    map-append f (numbers k) (k ∷ [])
    ∙ ap₂ (λ l x. l ++ x ∷ []) (map_numbers f g k (λ j h. same j (omega arith))) (same k (omega arith))
    ∙ sym (map-append g (numbers k) (k ∷ []))

join_numbers : (f g : ℕ → List ℕ) (k : ℕ) → ((j : ℕ) → j < k → f j ≡ g j) → flat_map f (numbers k) ≡ flat_map g (numbers k)
join_numbers f g zero same = refl
join_numbers f g (suc k) same =
    flat_map-append f (numbers k) (k ∷ [])
    ∙ ap₂ (λ l x. l ++ (x ++ [])) (join_numbers f g k (λ j h. same j (omega arith))) (same k (omega arith))
    ∙ sym (flat_map-append g (numbers k) (k ∷ []))

-- ---- rows that agree inside of the table have one text

module _ (n size : ℕ) (rows rows' : List ℕ)
    (next : (s c : ℕ) → s < size → c < 2 ^ n → next_of n rows s c ≡ next_of n rows' s c)
    (mark : (s : ℕ) → s < size → mark_of n rows s ≡ mark_of n rows' s)
  where
    one_line : (s : ℕ) → s < size → row_line (written n size rows) s ≡ row_line (written n size rows') s
    unfolding row_line
    one_line s h =
        ap₂ (λ m l. line_of (map decimal (s ∷ cond (ltb s size && eqb m 1) 1 0 ∷ l))) (mark s h)
        (map_numbers ((written n size rows).step s) ((written n size rows').step s) (2 ^ n)
        (λ c hc. ap (λ x. cond (ltb s size && ltb c (2 ^ n)) x 0) (next s c h hc)))

    pub text_of_same : table_text n size rows ≡ table_text n size rows'
    unfolding table_text
    text_of_same = ap (λ l. names_line n ++ l) (join_numbers (row_line (written n size rows)) (row_line (written n size rows')) size one_line)

-- ---- one language, one table, one text

module _ (n : ℕ) (holds : ℕ → List ℕ → Type 0) (f : Formula) where
  one_table : (rows rows' : List ℕ) (size size' : ℕ) → FormulaTable n holds f rows size → FormulaTable n holds f rows' size'
      → table_text n size rows ≡ table_text n size' rows'
  one_table rows rows' size size' a b =
      let L = a.0 in
      let other : TableOf n L rows' size' = table_of_same n b.0 L rows' size' (λ w cs. same_from_decides (b.0 w) (L w) (b.1 w cs) (a.1 w cs)) b.2 in
      text_of_same n size rows rows' (same_next n L rows size a.2 rows' size' other) (same_mark n L rows size a.2 rows' size' other)
      ∙ ap (λ k. table_text n k rows') (same_size n L rows size a.2 rows' size' other)

  pub one_text : (text text' : List ℕ) → FormulaText n holds f text → FormulaText n holds f text' → text ≡ text'
  one_text text text' a b = a.3 ∙ one_table a.0 b.0 a.1 b.1 a.2 b.2 ∙ sym b.3
