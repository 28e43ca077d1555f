-- The letters that are bound, and the variables that stand free.
use Rattle.std.proofs.Common.{◌≡◌, ℕ, Bool, true, false, not, ◌||◌, eqb, ◌⊎◌, List, [], ◌∷◌, ◌++◌, sym, ◌∙◌, inl, inr, ⊎_elim}
use Rattle.std.specs.Prelude.{All, filter}
use Rattle.std.proofs.lemmas.Bool.{eqb-true, eqb-false, or_cases, or_parts, not-true, false≢true}
use Rattle.std.proofs.lemmas.List.Elements.{All-tail, All-append, All-filter, All-weaker, filter_passes}
use Rattle.std.proofs.lemmas.List.Folds.{list_any-append}
use Rattle.grammar.specs.declared.step.Spot.{Spot}
use Rattle.grammar.specs.Claims.{Claim, atom, denial, and, or, implies, some, every, among, free}
use Rattle.reading.proofs.Lists.{all_left, all_right, all_joined}
use Rattle.reading.specs.MeaningLaws.{variables}

-- the letters with one more
pub among_cases : (x : ℕ) (bound : List ℕ) (y : ℕ) → among x (bound ++ y ∷ []) ≡ true → (among x bound ≡ true) ⊎ (x ≡ y)
among_cases x bound y is =
    ⊎_elim inl (λ last. ⊎_elim (λ here. inr (sym (eqb-true y x here))) (λ none. absurd (false≢true none)) (or_cases (eqb y x) false last))
    (or_cases (among x bound) (eqb y x || false) (sym (list_any-append (λ z. eqb z x) bound (y ∷ [])) ∙ is))

pub among_neither : (x : ℕ) (bound : List ℕ) (y : ℕ) → among x (bound ++ y ∷ []) ≡ false → (among x bound ≡ false) × (x ≡ y → ⊥)
among_neither x bound y none =
    let parts = or_parts (among x bound) (eqb y x || false) (sym (list_any-append (λ z. eqb z x) bound (y ∷ [])) ∙ none) in
    (parts.0, λ same. eqb-false y x (or_parts (eqb y x) false parts.1).0 (sym same))

-- what holds of each variable of a claim holds of the free ones, and their letters are not bound
module _ (P : Spot → Type 0) where
  abbrev pub Loose : List ℕ → Spot → Type 0
  Loose bound z = (among z.letter bound ≡ false) × P z

  loose_spots : (bound : List ℕ) (spots : List Spot) → All P spots → All (Loose bound) (filter (λ z. not (among z.letter bound)) spots)
  loose_spots bound spots all =
      let test : Spot → Bool = λ z. not (among z.letter bound) in
      all_joined (λ z. test z ≡ true) P (Loose bound) (λ z out p. (not-true (among z.letter bound) out, p)) (filter test spots)
      (filter_passes test spots) (All-filter test P spots all)

  -- with a letter less that is bound
  fewer : (bound : List ℕ) (y : ℕ) (spots : List Spot) → All (Loose (bound ++ y ∷ [])) spots → All (Loose bound) spots
  fewer bound y = All-weaker (Loose (bound ++ y ∷ [])) (Loose bound) (λ z h. ((among_neither z.letter bound y h.0).0, h.1))

  two : (bound : List ℕ) (f g : Claim) → (All P (variables f) → All (Loose bound) (free bound f))
      → (All P (variables g) → All (Loose bound) (free bound g)) → All P (variables f ++ variables g) → All (Loose bound) (free bound f ++ free bound g)
  two bound f g left right all =
      All-append (Loose bound) (free bound f) (free bound g) (left (all_left P (variables f) (variables g) all))
      (right (all_right P (variables f) (variables g) all))

  pub loose : (f : Claim) (bound : List ℕ) → All P (variables f) → All (Loose bound) (free bound f)
  loose (atom at p spots) bound all = loose_spots bound spots all
  loose (denial at f) bound all = loose f bound all
  loose (and at f g) bound all = two bound f g (loose f bound) (loose g bound) all
  loose (or at f g) bound all = two bound f g (loose f bound) (loose g bound) all
  loose (implies at f g) bound all = two bound f g (loose f bound) (loose g bound) all
  loose (some at x f) bound all =
      fewer bound x.letter (free (bound ++ x.letter ∷ []) f) (loose f (bound ++ x.letter ∷ []) (All-tail P x (variables f) all))
  loose (every at x f) bound all =
      fewer bound x.letter (free (bound ++ x.letter ∷ []) f) (loose f (bound ++ x.letter ∷ []) (All-tail P x (variables f) all))

  pub free_all : (f : Claim) (bound : List ℕ) → All P (variables f) → All P (free bound f)
  free_all f bound all = All-weaker (Loose bound) P (λ z h. h.1) (free bound f) (loose f bound all)
