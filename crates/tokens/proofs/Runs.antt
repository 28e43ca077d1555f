-- How a text is cut: a run of letters is one piece, and so is each other byte.
use Rattle.std.proofs.Common.{◌≡◌, ℕ, zero, suc, ◌+◌, ◌-◌, ◌<◌, ◌≤◌, true, false, ◌&&◌, List, ◌∷◌, length, get_or, take, drop, inl, inr, sym, ap, subst, ◌∙◌, arith, tests}
use Rattle.std.proofs.lemmas.Bool.{cond-true, cond-false, and_left, and_right, and_from, cases_lt}
use Rattle.std.proofs.lemmas.List.{drop_more}
use Rattle.std.proofs.Math.ListN.{drop_of_length-le}
use Rattle.std.specs.Char.{is_ascii_alphabetic}
use Rattle.tokens.specs.Pieces.{blank, on_letter, longer, pieces}

letter_not_blank : (b : ℕ) → is_ascii_alphabetic b ≡ true → blank b ≡ false
letter_not_blank b letter = grind (arith, tests)

-- one byte, at the front of what is left of a text
module _ (text : List ℕ) (at : ℕ) (low : at < length text) where
  -- a byte with no run behind it
  alone : blank (get_or text at 0) ≡ false → (is_ascii_alphabetic (get_or text at 0) && on_letter (drop (at + 1) text)) ≡ false
      → pieces at (drop at text) ≡ (at, take 1 (drop at text)) ∷ pieces (at + 1) (drop (at + 1) text)
  alone solid ends =
      rw (drop_more text at 0 low)
      (cond-false (blank (get_or text at 0)) _ _ solid ∙ cond-false (is_ascii_alphabetic (get_or text at 0) && on_letter (drop (at + 1) text)) _ _ ends)

  pub other_alone : blank (get_or text at 0) ≡ false → is_ascii_alphabetic (get_or text at 0) ≡ false
      → pieces at (drop at text) ≡ (at, take (at + 1 - at) (drop at text)) ∷ pieces (at + 1) (drop (at + 1) text)
  other_alone solid other =
      let one : at + 1 - at ≡ 1 = omega arith in
      rw one (alone solid (and_left _ (on_letter (drop (at + 1) text)) other))

  -- a letter in front of a run
  letter_longer : is_ascii_alphabetic (get_or text at 0) ≡ true → on_letter (drop (at + 1) text) ≡ true
      → pieces at (drop at text) ≡ longer at (get_or text at 0) (pieces (at + 1) (drop (at + 1) text))
  letter_longer letter more =
      ap (pieces at) (drop_more text at 0 low)
      ∙ cond-false (blank (get_or text at 0)) _ _ (letter_not_blank (get_or text at 0) letter)
      ∙ cond-true (is_ascii_alphabetic (get_or text at 0) && on_letter (drop (at + 1) text)) _ _ (and_from _ _ letter more)

-- whether a text goes on with a letter
on_letter_at : (text : List ℕ) (at : ℕ) → at < length text → on_letter (drop at text) ≡ is_ascii_alphabetic (get_or text at 0)
on_letter_at text at low = ap on_letter (drop_more text at 0 low)

pub run_ends : (text : List ℕ) (end : ℕ) → (end < length text → is_ascii_alphabetic (get_or text end 0) ≡ false)
    → on_letter (drop end text) ≡ false
run_ends text end other = elim (cases_lt end (length text)) [
  | inl low ↦ on_letter_at text end low ∙ other low
  | inr past ↦ ap on_letter (drop_of_length-le text past)
]

-- letters from one place to another, and no letter behind them
module _ (text : List ℕ) (end : ℕ) (room : end ≤ length text) (ends : on_letter (drop end text) ≡ false) where
  run_by : (n at : ℕ) → at + suc n ≡ end → ((k : ℕ) → at ≤ k → k < end → is_ascii_alphabetic (get_or text k 0) ≡ true)
      → pieces at (drop at text) ≡ (at, take (suc n) (drop at text)) ∷ pieces end (drop end text)
  run_by zero at is letters =
      let low : at < length text = omega arith in
      let letter = letters at (omega arith) (omega arith) in
      let next : at + 1 ≡ end = omega arith in
      let ends_there = subst (λ e. on_letter (drop e text) ≡ false) (sym next) ends in
      subst (λ e. pieces at (drop at text) ≡ (at, take 1 (drop at text)) ∷ pieces e (drop e text)) next
      (alone text at low (letter_not_blank (get_or text at 0) letter) (and_right (is_ascii_alphabetic (get_or text at 0)) _ ends_there))
  run_by (suc n) at is letters =
      let low : at < length text = omega arith in
      let letter = letters at (omega arith) (omega arith) in
      let more = on_letter_at text (at + 1) (omega arith) ∙ letters (at + 1) (omega arith) (omega arith) in
      let later = run_by n (at + 1) (omega arith) (λ k above below. letters k (omega arith) below) in
      letter_longer text at low letter more
      ∙ ap (longer at (get_or text at 0)) later
      ∙ ap (λ bytes. (at, take (suc (suc n)) bytes) ∷ pieces end (drop end text)) (sym (drop_more text at 0 low))

  pub run_cut : (at : ℕ) → at < end → ((k : ℕ) → at ≤ k → k < end → is_ascii_alphabetic (get_or text k 0) ≡ true)
      → pieces at (drop at text) ≡ (at, take (end - at) (drop at text)) ∷ pieces end (drop end text)
  run_cut at low letters =
      let long : end - at ≡ suc (end - at - 1) = omega arith in
      rw long (run_by (end - at - 1) at (omega arith) letters)
