-- Cells of rows: two places of a table are one only where row and column are, and one write changes one of them.
use Rattle.std.proofs.Common.{◌≡◌, ℕ, ◌+◌, ◌*◌, ◌/◌, ◌%◌, ◌<◌, List, length, get_or, drop, set, sym, ap, ◌∙◌, arith}
use Rattle.std.proofs.lemmas.List.{get_or-set_same, get_or-set_other, drop-set-lt}
use Rattle.std.proofs.lemmas.Nat.{div-mul-add, mod-mul-add, mul-add-lt}
use Rattle.words.specs.Rows.{width}

pub same_cell : (w a c b d : ℕ) → c < w → d < w → a * w + c ≡ b * w + d → (a ≡ b) × (c ≡ d)
same_cell w a c b d hc hd e =
    (sym (div-mul-add a w c hc) ∙ ap (λ x. x / w) e ∙ div-mul-add b w d hd, sym (mod-mul-add a w c hc) ∙ ap (λ x. x % w) e ∙ mod-mul-add b w d hd)

-- a cell of one of the first k rows is among their cells
pub cell_below : (w k a c : ℕ) → a < k → c < w → a * w + c < k * w
cell_below w k a c ha hc = omega (arith, mul-add-lt a w c k ha hc)

-- ---- one write, at row a and column d

module _ (n : ℕ) (rows : List ℕ) (a d v : ℕ) (small : d < width n) where
  pub write_here : a * width n + d < length rows → get_or (set rows (a * width n + d) v) (a * width n + d) 0 ≡ v
  write_here within = get_or-set_same rows (a * width n + d) v 0 within

  pub write_there : (s c : ℕ) → c < width n → ((s ≡ a) × (c ≡ d) → ⊥) → get_or (set rows (a * width n + d) v) (s * width n + c) 0 ≡ get_or rows (s * width n + c) 0
  write_there s c hc other = get_or-set_other rows (a * width n + d) (s * width n + c) v 0 (λ e. other (same_cell (width n) s c a d hc small e))

  -- what lies past the first k rows stays
  pub write_past : (k : ℕ) → a < k → drop (k * width n) (set rows (a * width n + d) v) ≡ drop (k * width n) rows
  write_past k h = drop-set-lt (k * width n) rows (a * width n + d) v (cell_below (width n) k a d h small)
