-- Hiding a set looks past the word's end: a word codes sets of which some have a set in place of set i in the language,
-- exactly when some word that is equal to it but for bit i, and then some columns with no bit but i, lead to acceptance.
use Rattle.std.proofs.Common.{◌≡◌, ℕ, zero, suc, ◌+◌, ◌*◌, ◌/◌, ◌%◌, ◌^◌, ◌<◌, ◌≤◌, Bool, List, [], ◌∷◌, ◌++◌, replicate, sym, refl, ap, ◌∙◌, subst, ap₂, ⊎_elim, lt_of_lt_of_le, pow-suc, arith, pow_pos, pow_mono}
use Rattle.std.proofs.lemmas.Bool.{cases_eq, cases_lt}
use Rattle.std.proofs.lemmas.List.{append-nil}
use Rattle.words.specs.Sets.{bit}
use Rattle.words.specs.Words.{Columns, coded}
use Rattle.words.specs.Residuals.{BySets}
use Rattle.words.specs.Hiding.{turned, AgreeBut, EqualBut, OnlyBit, Hides, HidesBit}
use Rattle.words.specs.HidingLaws.{BitsAreSets}
use Rattle.words.proofs.Bits.{bit_small, bit_of_zero, bit_low, bit_high, bit_past, bits_equal}
use Rattle.words.proofs.Coding.{columns_append, columns_zeros, zeros_at_end}

-- ---- columns with another bit i

pub turned_here : (i b c : ℕ) → b < 2 → bit i (turned i b c) ≡ b
turned_here zero b c h = bit_low b (c / 2) h
turned_here (suc i) b c h = bit_high i (c % 2) (turned i b (c / 2)) (omega arith) ∙ turned_here i b (c / 2) h

pub turned_there : (i b c : ℕ) → b < 2 → AgreeBut i (turned i b c) c
turned_there zero b c h zero other = absurd (other refl)
turned_there zero b c h (suc j) other = bit_high j b (c / 2) h
turned_there (suc i) b c h zero other = bit_low (c % 2) (turned i b (c / 2)) (omega arith)
turned_there (suc i) b c h (suc j) other =
    bit_high j (c % 2) (turned i b (c / 2)) (omega arith) ∙ turned_there i b (c / 2) h j (λ e. other (ap suc e))

pub turned_below : (n i b c : ℕ) → b < 2 → i < n → c < 2 ^ n → turned i b c < 2 ^ n
turned_below zero i b c h hi hc = absurd (omega arith)
turned_below (suc n) zero b c h hi hc = omega (arith, pow-suc 2 n)
turned_below (suc n) (suc i) b c h hi hc =
    let half : c / 2 < 2 ^ n = omega (arith, pow-suc 2 n) in
    omega (arith, pow-suc 2 n, turned_below n i b (c / 2) h (omega arith) half)

-- a column that agrees with another but for bit i is that one, turned
pub turned_is : (i c d : ℕ) → AgreeBut i c d → c ≡ turned i (bit i c) d
turned_is i c d agree = bits_equal c (turned i (bit i c) d) same
  where
    same : (j : ℕ) → bit j c ≡ bit j (turned i (bit i c) d)
    same j = ⊎_elim
        (λ e. subst (λ x. bit x c ≡ bit x (turned i (bit i c) d)) (sym e) (sym (turned_here i (bit i c) d (bit_small i c))))
        (λ other. agree j other ∙ sym (turned_there i (bit i c) d (bit_small i c) j other)) (cases_eq j i)

-- ---- words that agree but for set i

-- columns below 2^n whose sets below n agree but for i
coded_agree : (n i : ℕ) (c d : ℕ) → c < 2 ^ n → d < 2 ^ n → ((j : ℕ) → j < n → (j ≡ i → ⊥) → bit j c ≡ bit j d) → AgreeBut i c d
coded_agree n i c d hc hd same j other =
    ⊎_elim (λ l. same j l other) (λ l. past c hc l ∙ sym (past d hd l)) (cases_lt j n)
  where
    past : (x : ℕ) → x < 2 ^ n → n ≤ j → bit j x ≡ 0
    past x hx l = bit_past j x (lt_of_lt_of_le hx (pow_mono l))

-- equal but for bit i codes equal sets but for set i
pub equal_codes : (i : ℕ) (u w : List ℕ) → EqualBut i u w → (j : ℕ) → (j ≡ i → ⊥) → coded j u ≡ coded j w
equal_codes i [] [] e j other = refl
equal_codes i [] (d ∷ w) e j other = absurd e
equal_codes i (c ∷ u) [] e j other = absurd e
equal_codes i (c ∷ u) (d ∷ w) e j other = ap₂ (λ b s. b + 2 * s) (e.0 j other) (equal_codes i u w e.1 j other)

only_codes : (i : ℕ) (v : List ℕ) → OnlyBit i v → (j : ℕ) → (j ≡ i → ⊥) → coded j v ≡ 0
only_codes i [] o j other = refl
only_codes i (c ∷ v) o j other = omega (arith, o.0 j other, bit_of_zero j, only_codes i v o.1 j other)

-- what follows a word that is equal but for bit i, with no bit but i, changes no set but i
pub longer_codes : (i : ℕ) (u w v : List ℕ) → EqualBut i u w → OnlyBit i v → (j : ℕ) → (j ≡ i → ⊥) → coded j (u ++ v) ≡ coded j w
longer_codes i [] [] v e o j other = only_codes i v o j other
longer_codes i [] (d ∷ w) v e o j other = absurd e
longer_codes i (c ∷ u) [] v e o j other = absurd e
longer_codes i (c ∷ u) (d ∷ w) v e o j other = ap₂ (λ b s. b + 2 * s) (e.0 j other) (longer_codes i u w v e.1 o j other)

-- ---- a word that codes the same sets but for set i, beside the word

-- Either it is shorter, and zeros make it equal but for bit i; or it goes on with columns that have no bit but i.
pub beside : (n i : ℕ) (u w : List ℕ) → Columns n u → Columns n w → ((j : ℕ) → j < n → (j ≡ i → ⊥) → coded j u ≡ coded j w)
    → (x : List ℕ) × (v : List ℕ) × (k : ℕ) × (u ++ replicate k 0 ≡ x ++ v) × Columns n x × Columns n v × EqualBut i x w × OnlyBit i v
beside n i [] [] cu cw same = ([], [], 0, refl, tt, tt, tt, tt)
beside n i (c ∷ u) [] cu cw same = ([], c ∷ u, 0, append-nil (c ∷ u), tt, cu, tt, only (c ∷ u) cu (λ j l other. same j l other))
  where
    only : (v : List ℕ) → Columns n v → ((j : ℕ) → j < n → (j ≡ i → ⊥) → coded j v ≡ 0) → OnlyBit i v
    only [] cv none = tt
    only (d ∷ v) cv none = (
      coded_agree n i d 0 cv.0 (pow_pos n) (λ j l other. let e = none j l other in omega (arith, bit_of_zero j)),
      only v cv.1 (λ j l other. let e = none j l other in omega arith),
    )
beside n i [] (d ∷ w) cu cw same =
    let rest = beside n i [] w tt cw.1 (λ j l other. let e = same j l other in omega arith) in (
      0 ∷ rest.0,
      rest.1,
      suc rest.2,
      ap (λ x. 0 ∷ x) rest.3,
      (pow_pos n, rest.4),
      rest.5,
      (coded_agree n i 0 d (pow_pos n) cw.0 (λ j l other. let e = same j l other in omega (arith, bit_of_zero j)), rest.6),
      rest.7,
    )
beside n i (c ∷ u) (d ∷ w) cu cw same =
    let low : (j : ℕ) → j < n → (j ≡ i → ⊥) → bit j c ≡ bit j d = λ j l other. let e = same j l other in omega (arith, bit_small j c, bit_small j d) in
    let rest = beside n i u w cu.1 cw.1 (λ j l other. let e = same j l other in omega (arith, bit_small j c, bit_small j d)) in
    (c ∷ rest.0, rest.1, rest.2, ap (λ x. c ∷ x) rest.3, (cu.0, rest.4), rest.5, (coded_agree n i c d cu.0 cw.0 low, rest.6), rest.7)

-- ---- the look past the end

-- zeros at the end change no set, and so no answer of a language that depends only on the sets coded
padded : (n : ℕ) (L : List ℕ → Bool) → BySets n L → (u : List ℕ) (k : ℕ) → Columns n u → L (u ++ replicate k 0) ≡ L u
padded n L by_sets u k cu = by_sets (u ++ replicate k 0) u (columns_append n u (replicate k 0) cu (columns_zeros n k)) cu (λ j l. zeros_at_end j k u)

pub bits_are_sets : BitsAreSets
bits_are_sets n i L by_sets w cw = (to, from)
  where
    to : HidesBit n i L w → Hides n i L w
    to (x, v, cx, cv, e, o, is) = (x ++ v, columns_append n x v cx cv, (λ j l other. longer_codes i x w v e o j other), is)

    from : Hides n i L w → HidesBit n i L w
    from h =
        let b = beside n i h.0 w h.1 cw h.2 in
        (b.0, b.1, b.4, b.5, b.6, b.7, ap L (sym b.3) ∙ padded n L by_sets h.0 b.2 h.1 ∙ h.3)
