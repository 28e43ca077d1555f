-- Rows of merged states, row by row.
use Rattle.std.proofs.Common.{◌≡◌, ℕ, ◌+◌, ◌-◌, ◌*◌, ◌^◌, ◌<◌, ◌≤◌, cond, List, length, drop, slice_index, sym, ap, ◌∙◌, mul-le-mul_right, arith, rules, below_more}
use Rattle.std.proofs.lemmas.List.{places}
use Rattle.std.proofs.lemmas.Slice.{between_to_end, between-put_mid}
use borrow.Rule.Slice.PartMut.{put_mid}
use Rattle.words.specs.Automata.{Automaton}
use Rattle.words.specs.Rows.{width, next_of, mark_of}
use Rattle.words.proofs.Cells.{cell_below}
use Rattle.tables.specs.Numbered.{Wrote, WroteRow}

-- a part of a list was written
module _ (xs ys : List ℕ) (at many : ℕ) (long : length ys ≡ many) (room : at + many ≤ length xs) where
  below : (i : ℕ) → i < at → slice_index (put_mid at many xs ys) i ≡ slice_index xs i
  below i h = search (rules, places)

  inside : (i : ℕ) → i < many → slice_index (put_mid at many xs ys) (at + i) ≡ slice_index ys i
  inside i h = search (rules, places)

  above : (i : ℕ) → at + many ≤ i → slice_index (put_mid at many xs ys) i ≡ slice_index xs i
  above i h = search (rules, places)

-- all from `at` on was written
pub after_all : (xs ys : List ℕ) (at : ℕ) → at ≤ length xs → length ys ≡ length xs - at → drop at (put_mid at (length xs - at) xs ys) ≡ ys
after_all xs ys at room long =
    let all : length (put_mid at (length xs - at) xs ys) ≡ length xs = search (rules, places) in
    sym (between_to_end (put_mid at (length xs - at) xs ys) at (length xs) (omega arith)) ∙ between-put_mid at (length xs - at) xs ys (length xs) room long

-- one row more, of so many that there is room for
pub wrote_more : {a : Automaton} {n : ℕ} {number leader : ℕ → ℕ} {k : ℕ} {out now row : List ℕ} (w count : ℕ) → w ≡ width n → Wrote a n number leader k out now
    → WroteRow a n number (leader k) row → length row ≡ w → k < count → count * width n ≤ length now
    → Wrote a n number leader (k + 1) out (put_mid (k * w) ((k + 1) * w - k * w) now row)
wrote_more {a} {n} {number} {leader} {k} {out} {now} {row} w count is wrote this long more room =
    let at : ℕ = k * w in
    let many : ℕ = (k + 1) * w - k * w in
    let part = put_mid at many now row in
    let start : at ≡ k * width n = ap (λ x. k * x) is in
    let wide : length row ≡ many = omega (arith, long) in
    let fits : at + many ≤ length now = omega (arith, start, mul-le-mul_right (width n) more) in
    let earlier : (x c : ℕ) → x < k → c < width n → slice_index part (x * width n + c) ≡ slice_index now (x * width n + c) =
    λ x c hx hc. below now row at many wide fits (x * width n + c) (omega (arith, start, cell_below (width n) k x c hx hc)) in
    let here : (c : ℕ) → c < width n → slice_index part (k * width n + c) ≡ slice_index row c =
    λ c hc. ap (λ i. slice_index part (i + c)) (sym start) ∙ inside now row at many wide fits c (omega arith) in
    record {
      next = λ j c h hc. below_more (λ x. next_of n part x c ≡ number (a.step (leader x) c)) k
          (λ x hx. earlier x c hx (omega arith) ∙ wrote.next x c hx hc) (here c (omega arith) ∙ this.next c hc) j h;
      mark = below_more (λ x. mark_of n part x ≡ cond (a.accepts (leader x)) 1 0) k
          (λ x hx. earlier x (2 ^ n) hx (omega arith) ∙ wrote.mark x hx) (here (2 ^ n) (omega arith) ∙ this.mark);
      behind = λ i h. above now row at many wide fits i (omega arith) ∙ wrote.behind i (omega arith);
    }
