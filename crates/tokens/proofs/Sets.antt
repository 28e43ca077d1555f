-- The set of a letter is where it is found among the letters that have appeared, or the next behind them.
use Rattle.std.proofs.Common.{◌≡◌, ℕ, ◌<◌, ◌≤◌, List, [], ◌∷◌, ◌++◌, length, ◌==◌, Some, None, Option, position, inl, inr, refl, sym, ap, ◌∙◌, arith}
use Rattle.std.specs.List.{position_or_len}
use lib.Dec.{ltb}
use Rattle.std.proofs.lemmas.Bool.{cases_Bool, cond-true, cond-false, ltb-true, ltb-false}
use Rattle.tokens.specs.Numbering.{set_of, noted}

known_noted : (x : ℕ) (ys : List ℕ) → set_of x ys < length ys → noted x ys ≡ ys
known_noted x [] low = absurd (omega arith)
known_noted x (y ∷ ys) low = elim (cases_Bool (y == x)) [
  | inl is ↦ cond-true (y == x) _ _ is
  | inr other ↦ cond-false (y == x) _ _ other ∙ ap (λ zs. y ∷ zs) (known_noted x ys (omega (arith, rw other at low)))
]

new_noted : (x : ℕ) (ys : List ℕ) → length ys ≤ set_of x ys → (noted x ys ≡ ys ++ x ∷ []) × (set_of x ys ≡ length ys)
new_noted x [] past = (refl, refl)
new_noted x (y ∷ ys) past = elim (cases_Bool (y == x)) [
  | inl is ↦ absurd (omega (arith, rw is at past))
  | inr other ↦
      let later = new_noted x ys (omega (arith, rw other at past)) in (
        cond-false (y == x) _ _ other ∙ ap (λ zs. y ∷ zs) later.0,
        cond-false (y == x) _ _ other ∙ omega (arith, later.1),
      )
]

place_is_set : (x : ℕ) (ys : List ℕ) → position_or_len (λ y. y == x) ys ≡ set_of x ys
place_is_set x [] = refl
place_is_set x (y ∷ ys) = elim (cases_Bool (y == x)) [ inl is ↦ rw is refl | inr other ↦ rw other (omega (arith, place_is_set x ys)) ]

-- what a search among the letters answers
module _ (x : ℕ) (ys : List ℕ) (r : Option ℕ) (answer : r ≡ position (λ y. y == x) ys) where
  pub found : (k : ℕ) → r ≡ Some k → (k ≡ set_of x ys) × (ys ≡ noted x ys)
  found k is =
      let place : ℕ = position_or_len (λ y. y == x) ys in
      elim (cases_Bool (ltb place (length ys))) [
        | inl low ↦
            let same : place ≡ k = let e = cond-true (ltb place (length ys)) (Some place) None low in cc in
            let below = ltb-true place (length ys) low in
            (sym same ∙ place_is_set x ys, sym (known_noted x ys (omega (arith, below, place_is_set x ys))))
        | inr past ↦ absurd (let e = cond-false (ltb place (length ys)) (Some place) None past in cc)
      ]

  pub not_found : r ≡ None → (noted x ys ≡ ys ++ x ∷ []) × (set_of x ys ≡ length ys)
  not_found is =
      let place : ℕ = position_or_len (λ y. y == x) ys in
      elim (cases_Bool (ltb place (length ys))) [
        | inl low ↦ absurd (let e = cond-true (ltb place (length ys)) (Some place) None low in cc)
        | inr past ↦
            let above = ltb-false place (length ys) past in
            new_noted x ys (omega (arith, above, place_is_set x ys))
      ]
