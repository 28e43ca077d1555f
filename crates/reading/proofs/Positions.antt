-- What a whole formula says besides the claim's own: that the sets of free positions have one member each.
use Rattle.std.proofs.Common.{◌≡◌, ℕ, zero, suc, ◌<◌, Bool, true, false, ◌&&◌, cond, eqb, ◌↔◌, List, [], ◌∷◌, Option, Some, None, sym, refl, subst, ⊎_elim, arith}
use Rattle.std.specs.Prelude.{All}
use Rattle.std.proofs.lemmas.Bool.{cases_eq, eq-eqb, eqb-true, and_parts, and_from, both_ways}
use Rattle.std.proofs.lemmas.List.Elements.{All-nil, All-cons, All-head, All-tail}
use Rattle.words.specs.Relations.{Singleton}
use Rattle.words.specs.Formulas.{Formula, Truth}
use Rattle.grammar.specs.declared.step.Spot.{Spot}
use Rattle.grammar.specs.Claims.{Claim, is_position, free}
use Rattle.grammar.specs.Steps.{first_free}
use Rattle.reading.specs.Formulas.{lone_at, with_positions, formula_of, whole}
use Rattle.reading.specs.Stepping.{Sure}

-- a position whose set is i has a set with one member
abbrev pub AloneAt : ℕ → (ℕ → ℕ) → Spot → Type 0
AloneAt i c x = is_position x ≡ true → x.set ≡ i → Singleton (c x.set)

-- a position whose set is below n has a set with one member
abbrev pub AloneBelow : ℕ → (ℕ → ℕ) → Spot → Type 0
AloneBelow n c x = is_position x ≡ true → x.set < n → Singleton (c x.set)

module _ (holds : ℕ → List ℕ → Type 0) (c : ℕ → ℕ) where
  -- one step of `with_positions`
  at_truth : (i : ℕ) (spots : List Spot) (f : Formula) → Truth holds (lone_at i (first_free i spots) f) c ↔ (Truth holds f c × All (AloneAt i c) spots)
  at_truth i [] f = ((λ h. (h, All-nil (AloneAt i c))), (λ h. h.0))
  at_truth i (x ∷ xs) f = go (eqb x.set i && is_position x) refl (at_truth i xs f)
    where
      go : (t : Bool) → (eqb x.set i && is_position x) ≡ t → Truth holds (lone_at i (first_free i xs) f) c ↔ (Truth holds f c × All (AloneAt i c) xs)
          → Truth holds (lone_at i (cond t (Some x.place) (first_free i xs)) f) c ↔ (Truth holds f c × All (AloneAt i c) (x ∷ xs))
      go true e rest = (
        (λ h. (h.0, λ k d l position same. subst (λ s. Singleton (c s)) (sym same) h.1)),
        (λ h.
            let parts = and_parts (eqb x.set i) (is_position x) e in
            let same : x.set ≡ i = eqb-true x.set i parts.0 in
            (h.0, subst (λ s. Singleton (c s)) same (All-head (AloneAt i c) x xs h.1 parts.1 same))),
      )
      go false e rest = (
        (λ h.
            let more = rest.0 h in (
              more.0,
              All-cons (AloneAt i c) x xs
                  (λ position same. absurd (both_ways (eqb x.set i && is_position x) e (and_from (eqb x.set i) (is_position x) (eq-eqb x.set i same) position)))
                  more.1,
            )),
        (λ h. rest.1 (h.0, All-tail (AloneAt i c) x xs h.1)),
      )

  below_none : (spots : List Spot) → All (AloneBelow 0 c) spots
  below_none spots k d h position less = absurd (omega arith)

  -- the whole formula is true when the claim's own is, and the sets of free positions have one member each
  pub positions_truth : (n : ℕ) (spots : List Spot) (f : Formula) → Truth holds (with_positions n spots f) c ↔ (Truth holds f c × All (AloneBelow n c) spots)
  positions_truth zero spots f = ((λ h. (h, below_none spots)), (λ h. h.0))
  positions_truth (suc i) spots f = (forth (positions_truth i spots f).0, back (positions_truth i spots f).1)
    where
      forth : (Truth holds (with_positions i spots f) c → Truth holds f c × All (AloneBelow i c) spots)
          → Truth holds (with_positions (suc i) spots f) c → Truth holds f c × All (AloneBelow (suc i) c) spots
      forth rest h =
          let here = (at_truth i spots (with_positions i spots f)).0 h in
          let below = rest here.0 in (
            below.0,
            λ k d l position less.
                ⊎_elim (λ same. here.1 k d l position same) (λ other. below.1 k d l position (omega arith)) (cases_eq _ i),
          )

      back : (Truth holds f c × All (AloneBelow i c) spots → Truth holds (with_positions i spots f) c)
          → Truth holds f c × All (AloneBelow (suc i) c) spots → Truth holds (with_positions (suc i) spots f) c
      back rest h =
          (at_truth i spots (with_positions i spots f)).1 (
            rest (h.0, λ k d l position less. h.1 k d l position (omega arith)),
            (λ k d l position same. h.1 k d l position (omega arith)),
          )

-- ---- the claim's own formula is decided where the whole one is

module _ (holds : ℕ → List ℕ → Type 0) where
  sure_at : (i : ℕ) (o : Option ℕ) (f : Formula) → Sure holds (lone_at i o f) → Sure holds f
  sure_at i (Some at) f sure = sure.1
  sure_at i None f sure = sure

  sure_positions : (n : ℕ) (spots : List Spot) (f : Formula) → Sure holds (with_positions n spots f) → Sure holds f
  sure_positions zero spots f sure = sure
  sure_positions (suc i) spots f sure =
      sure_positions i spots f (sure_at i (first_free i spots) (with_positions i spots f) sure)

  pub sure_of_whole : (n : ℕ) (f : Claim) → Sure holds (whole n f) → Sure holds (formula_of f)
  sure_of_whole n f = sure_positions n (free [] f) (formula_of f)
