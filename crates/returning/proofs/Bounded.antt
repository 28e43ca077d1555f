-- A table whose numbers are cut off at 64 bits is the same table with the same text: the numbers that count are below its size.
use Rattle.std.proofs.Common.{◌≡◌, ℕ, ◌+◌, ◌-◌, ◌*◌, ◌^◌, ◌<◌, ◌≤◌, Bool, true, false, cond, List, [], ◌∷◌, ◌++◌, map, get_or, min, sym, ◌∙◌, subst, arith}
use Rattle.std.proofs.Math.ListN.{get_or-map}
use Rattle.words.specs.Rows.{width, next_of, mark_of}
use Rattle.words.specs.Residuals.{SameResidual}
use Rattle.words.specs.TableOf.{TableOf}
use Rattle.saving.specs.TableText.{table_text}
use Rattle.calls.proofs.OneText.{text_of_same}

-- a list with its numbers cut off
pub cut_off : List ℕ → List ℕ
cut_off rows = map (λ v. min v (2 ^ 64 - 1)) rows

at : (rows : List ℕ) (x : ℕ) → get_or (cut_off rows) x 0 ≡ min (get_or rows x 0) (2 ^ 64 - 1)
unfolding cut_off
at rows x = get_or-map (λ v. min v (2 ^ 64 - 1)) rows x 0

pub cut_small : (rows : List ℕ) (x : ℕ) → get_or (cut_off rows) x 0 < 2 ^ 64
cut_small rows x = omega (arith, at rows x)

-- ---- the table

module _ (n : ℕ) (L : List ℕ → Bool) (rows : List ℕ) (size : ℕ) (t : TableOf n L rows size) (small : size < 2 ^ 64) where
  next_stays : (s c : ℕ) → s < size → c < 2 ^ n → next_of n (cut_off rows) s c ≡ next_of n rows s c
  next_stays s c hs hc = omega (arith, at rows (s * width n + c), (t.next s c hs hc).0, small)

  one_or_none : (b : Bool) → cond b 1 0 ≤ 1
  one_or_none true = omega arith
  one_or_none false = omega arith

  mark_stays : (s : ℕ) → s < size → mark_of n (cut_off rows) s ≡ mark_of n rows s
  mark_stays s hs = omega (arith, at rows (s * width n + 2 ^ n), t.mark s hs, one_or_none (L (t.first s)))

  pub cut_table : TableOf n L (cut_off rows) size
  cut_table = record {
    first = t.first;
    some = t.some;
    columns = t.columns;
    start = t.start;
    ordered = t.ordered;
    different = t.different;
    every = t.every;
    next = λ j c hj hc.
        subst (λ s. (s < size) × SameResidual n L (t.first j ++ c ∷ []) (t.first s)) (sym (next_stays j c hj hc)) (t.next j c hj hc);
    mark = λ j h. mark_stays j h ∙ t.mark j h;
  }

  pub cut_text : table_text n size rows ≡ table_text n size (cut_off rows)
  cut_text = text_of_same n size rows (cut_off rows) (λ s c hs hc. sym (next_stays s c hs hc)) (λ s hs. sym (mark_stays s hs))
