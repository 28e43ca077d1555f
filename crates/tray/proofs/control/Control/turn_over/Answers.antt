use Rattle.std.proofs.Common.{◌≡◌, ℕ, ◌+◌, ◌-◌, ◌*◌, ◌^◌, ◌<◌, Bool, true, false, cond, not, eqb, length, sym, refl, ◌∙◌, subst, mul-le-mul_right, arith}
use Rattle.words.specs.Rows.{width}
use Rattle.words.proofs.Cells.{cell_below}
use Rattle.tray.specs.Flipped.{mark_at}
use Rattle.tray.specs.View.{slot, size_of}
use Rattle.tray.proofs.Flips.{flip_more}
use mir.Val.{bool_byte}
use Rattle.tray.proofs.control.Control.turn_over.Goals as goal

turned : (b : Bool) → bool_byte (not b) ≡ cond b 0 1
turned true = refl
turned false = refl

-- the last number of a row, where the code finds it
last_of_row : (n k s row w : ℕ) (c : ℕ) → s ≡ c → w ≡ width n → k * s + (row * w + (w - 1)) ≡ mark_at n (k * c) row
last_of_row n k s row w c slot_is width_is =
    subst (λ x. k * x + (row * w + (w - 1)) ≡ mark_at n (k * c) row) (sym slot_is)
    (subst (λ x. k * c + (row * x + (x - 1)) ≡ mark_at n (k * c) row) (sym width_is) (omega arith))

pub loop-row-preserved : goal.loop-row-preserved
loop-row-preserved c =
    let k = c.args.self.now in
    let base : ℕ = c.args.k * slot k in
    let row : ℕ = c.loop-row.row in
    let w : ℕ = c.row_length-width.result in
    let at : ℕ = c.args.k * c.slot_length.result + (row * w + (w - 1)) in
    let is : at ≡ mark_at k.sets base row = last_of_row k.sets c.args.k c.slot_length.result row w (slot k) c.slot_length.ensures.is c.row_length-width.ensures.is in
    let size : ℕ = size_of k c.args.k in
    let below : row < size = omega (arith, c.loop-row-test.true, c.from-row-end.ensures) in
    let inside : at < length c.loop-row.tables =
    omega (arith, is, c.requires.within.slots, c.loop-row.auto.tables, cell_below (width k.sets) size row (2 ^ k.sets) below (omega arith), mul-le-mul_right (width k.sets) c.requires.fits) in
    flip_more k.sets base row at c.from.result c.args.tables.now c.loop-row.tables is inside c.loop-row.invariant (c.from.ensures ∙ turned (eqb _ 1))
