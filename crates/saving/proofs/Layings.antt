-- Pieces laid one after another, and a whole text in a buffer.
use Rattle.std.proofs.Common.{◌≡◌, ℕ, ◌+◌, ◌-◌, ◌^◌, ◌<◌, ◌≤◌, List, [], ◌∷◌, ◌++◌, length, take, drop, set, min, sym, ap, ◌∙◌, arith, length-set}
use Rattle.std.proofs.lemmas.Grind.{common_steps}
use Rattle.std.proofs.lemmas.List.Sums.{fold-append}
use Rattle.saving.specs.Laying.{Page, Lays, LaysWhole, page, with_byte, with_piece}
use Rattle.saving.specs.declared.text.Text.{Text}

pub lays_then : {xs ys : List ℕ} {a b c : Text} → Lays xs a b → Lays ys b c → Lays (xs ++ ys) a c
lays_then {xs} {ys} {a} first second = record {
  same = second.same ∙ first.same;
  laid = second.laid ∙ ap (λ p. with_piece p ys) first.laid ∙ sym (fold-append with_byte (page a) xs ys);
}

-- where a piece ends
piece_end : (piece : List ℕ) (buffer : List ℕ) (at : ℕ) → at < 2 ^ 64 → (with_piece (buffer, at) piece).1 ≡ min (at + length piece) (2 ^ 64 - 1)
piece_end [] buffer at small = omega (arith, small)
piece_end (byte ∷ rest) buffer at small = omega (arith, small, piece_end rest (set buffer at byte) (min (at + 1) (2 ^ 64 - 1)) (omega arith))

-- a piece that fits
piece_fits : (piece : List ℕ) (buffer : List ℕ) (at : ℕ) → length buffer < 2 ^ 64 → at + length piece ≤ length buffer
    → with_piece (buffer, at) piece ≡ (take at buffer ++ (piece ++ drop (at + length piece) buffer), at + length piece)
piece_fits [] buffer at small room =
    grind (arith, common_steps)
piece_fits (byte ∷ rest) buffer at small room =
    let next : min (at + 1) (2 ^ 64 - 1) ≡ at + 1 = omega (arith, small, room) in
    let later = piece_fits rest (set buffer at byte) (at + 1) (omega (arith, small, length-set buffer at byte)) (omega (arith, room, length-set buffer at byte)) in
    grind (arith, common_steps, later)

-- ---- a text at the front of a buffer

module _ (text buffer buffer' : List ℕ) (end : ℕ) (whole : LaysWhole text buffer buffer' end) where
  pub whole_end : end ≡ min (length text) (2 ^ 64 - 1)
  whole_end = omega (arith, ap (λ (p : Page). p.1) whole, piece_end text buffer 0 (omega arith))

  pub whole_fits : length buffer < 2 ^ 64 → length text ≤ length buffer
      → (end ≡ length text) × (length buffer' ≡ length buffer) × (take end buffer' ≡ text) × (drop end buffer' ≡ drop end buffer)
  whole_fits small room =
      let fits = whole ∙ piece_fits text buffer 0 small (omega (arith, room)) in
      let long : end ≡ length text = omega (arith, ap (λ (p : Page). p.1) fits) in
      let holds : buffer' ≡ text ++ drop (0 + length text) buffer = ap (λ (p : Page). p.0) fits in
      (long, grind (arith, common_steps), grind (arith, common_steps), grind (arith, common_steps))
