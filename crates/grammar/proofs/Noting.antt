-- Where positions first stand free, when one variable more is looked at.
use Rattle.std.proofs.Common.{◌≡◌, ℕ, ◌<◌, Bool, true, false, cond, not, ◌&&◌, eqb, List, [], ◌∷◌, ◌++◌, length, get_or, filter, Some, None, Option, is_some, sym, refl, ap, ◌∙◌, subst, ⊎_elim, slice_set}
use Rattle.std.proofs.lemmas.Bool.{cases_eq, eq-eqb, ne_eqb, cond-true, cond-false, false≢true}
use Rattle.std.proofs.lemmas.List.{get_or-set_same, get_or-set_other, append-nil}
use Rattle.grammar.specs.declared.step.Spot.{Spot}
use Rattle.grammar.specs.Claims.{is_position, among}
use Rattle.grammar.specs.Steps.{first_free}
use Rattle.grammar.specs.Written.{Notes}

-- the first of two, if there is one
abbrev first_of : Option ℕ → Option ℕ → Option ℕ
first_of (Some a) b = Some a
first_of None b = b

test_step : (b : Bool) (place : ℕ) (r s : Option ℕ) → cond b (Some place) (first_of r s) ≡ first_of (cond b (Some place) r) s
test_step true place r s = refl
test_step false place r s = refl

first_append : (i : ℕ) (xs ys : List Spot) → first_free i (xs ++ ys) ≡ first_of (first_free i xs) (first_free i ys)
first_append i [] ys = refl
first_append i (x ∷ xs) ys =
    ap (cond (eqb x.set i && is_position x) (Some x.place)) (first_append i xs ys)
    ∙ test_step (eqb x.set i && is_position x) x.place (first_free i xs) (first_free i ys)

first_some : (r s : Option ℕ) → is_some r ≡ true → first_of r s ≡ r
first_some (Some a) s e = refl
first_some None s e = absurd (false≢true e)

is_none_of : (r : Option ℕ) → is_some r ≡ false → r ≡ None
is_none_of (Some a) e = absurd (false≢true (sym e))
is_none_of None e = refl

or_none : (r : Option ℕ) → first_of r None ≡ r
or_none (Some a) = refl
or_none None = refl

-- a variable that is none of the free positions with set i changes nothing there
module _ (noted : List (Option ℕ)) (spots : List Spot) (notes : Notes noted spots) where
  pub notes_bound : Notes noted (spots ++ [])
  notes_bound i low = notes i low ∙ sym (ap (first_free i) (append-nil spots))

  kept : (x : Spot) (i : ℕ) → i < 8 → first_free i (x ∷ []) ≡ None → get_or noted i None ≡ first_free i (spots ++ x ∷ [])
  kept x i low none = notes i low ∙ sym (first_append i spots (x ∷ []) ∙ ap (first_of (first_free i spots)) none ∙ or_none (first_free i spots))

  pub notes_set_letter : (x : Spot) → is_position x ≡ false → Notes noted (spots ++ x ∷ [])
  notes_set_letter x set i low = kept x i low (miss (eqb x.set i) (is_position x) set)
    where
      miss : (b p : Bool) → p ≡ false → cond (b && p) (Some x.place) None ≡ None
      miss true p e = cond-false p (Some x.place) None e
      miss false p e = refl

  other_set : (x : Spot) (i : ℕ) → (x.set ≡ i → ⊥) → first_free i (x ∷ []) ≡ None
  other_set x i other = ap (λ b. cond (b && is_position x) (Some x.place) None) (ne_eqb x.set i other)

  same_set : (x : Spot) → is_position x ≡ true → first_free x.set (x ∷ []) ≡ Some x.place
  same_set x position =
      ap (λ b. cond (b && is_position x) (Some x.place) None) (eq-eqb x.set x.set refl)
      ∙ cond-true (is_position x) (Some x.place) None position

  pub notes_again : (x : Spot) (set : ℕ) → set ≡ x.set → is_some (get_or noted set None) ≡ true → Notes noted (spots ++ x ∷ [])
  notes_again x set at some i low =
      ⊎_elim (λ e.
      let there : is_some (first_free i spots) ≡ true =
      subst (λ r. is_some r ≡ true) (notes i low) (subst (λ k. is_some (get_or noted k None) ≡ true) (at ∙ e) some) in
      notes i low ∙ sym (first_append i spots (x ∷ []) ∙ first_some (first_free i spots) (first_free i (x ∷ [])) there))
      (λ other. kept x i low (other_set x i other)) (cases_eq x.set i)

  pub notes_first : (x : Spot) (set : ℕ) → set ≡ x.set → is_position x ≡ true → set < length noted → is_some (get_or noted set None) ≡ false
      → Notes (slice_set noted set (Some x.place)) (spots ++ x ∷ [])
  notes_first x set at position within none i low =
      ⊎_elim (λ e.
      let nothing : first_free i spots ≡ None =
      is_none_of (first_free i spots)
      (subst (λ r. is_some r ≡ false) (notes i low) (subst (λ k. is_some (get_or noted k None) ≡ false) (at ∙ e) none)) in
      subst (λ k. get_or (slice_set noted set (Some x.place)) k None ≡ Some x.place) (at ∙ e) (get_or-set_same noted set (Some x.place) None within)
      ∙ sym (first_append i spots (x ∷ []) ∙ ap (λ r. first_of r (first_free i (x ∷ []))) nothing
      ∙ subst (λ k. first_free k (x ∷ []) ≡ Some x.place) e (same_set x position)))
      (λ other. get_or-set_other noted set i (Some x.place) None (λ e. other (sym (e ∙ at))) ∙ kept x i low (other_set x i other)) (cases_eq x.set i)

-- a variable counts where its letter is not bound
module _ (letters : List ℕ) (x : Spot) (P : List Spot → Type 0) (spots : List Spot) where
  pub among_free : among x.letter letters ≡ false → P (spots ++ x ∷ []) → P (spots ++ filter (λ y. not (among y.letter letters)) (x ∷ []))
  among_free none p = subst (λ b. P (spots ++ cond (not b) (x ∷ []) [])) (sym none) p

  pub among_bound : among x.letter letters ≡ true → P (spots ++ []) → P (spots ++ filter (λ y. not (among y.letter letters)) (x ∷ []))
  among_bound there p = subst (λ b. P (spots ++ cond (not b) (x ∷ []) [])) (sym there) p

  pub among_either : P (spots ++ []) → P (spots ++ x ∷ []) → P (spots ++ filter (λ y. not (among y.letter letters)) (x ∷ []))
  among_either without with = go (among x.letter letters)
    where
      go : (b : Bool) → P (spots ++ cond (not b) (x ∷ []) [])
      go true = without
      go false = with
