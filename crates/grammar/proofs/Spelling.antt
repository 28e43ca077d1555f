-- What a claim spells has no fault where a claim is due: the fault is that of what follows.
use Rattle.std.proofs.Common.{◌≡◌, ℕ, ◌+◌, ◌<◌, ◌≤◌, nat_lt, cond, List, [], ◌∷◌, ◌++◌, length, map, All, replicate, Some, None, Option, refl, ap, ◌∙◌}
use Rattle.std.proofs.lemmas.Bool.{cond-true, cond-false, lt-ltb, le-ltb}
use Rattle.std.proofs.lemmas.List.Elements.{All-head, All-tail}
use Rattle.tokens.specs.declared.item.Item.{Item}
use Rattle.grammar.specs.declared.flaw.Flaw.{Flaw}
use Rattle.grammar.specs.declared.flaw.Flaw.TheVariants.{TooDeep, TooManyVariables}
use Rattle.grammar.specs.declared.step.Spot.{Spot}
use Rattle.grammar.specs.Claims.{Claim, atom, denial, and, or, implies, some, every, spelled, variable_item, Fits}
use Rattle.grammar.specs.Faults.{Due, formula, variable, or_later, fault}

module _ (n long : ℕ) where
  -- a test that passes here leaves what is found later
  later_none : (r : Option Flaw) (place : ℕ) (later : Option (Flaw × ℕ)) → r ≡ None → or_later r place later ≡ later
  later_none r place later e = ap (λ x. or_later x place later) e

  has_set : (i : ℕ) → i < n → cond (nat_lt i n) None (Some TooManyVariables) ≡ None
  has_set i low = cond-true (nat_lt i n) None (Some TooManyVariables) (lt-ltb i n low)

  not_deep : (k : ℕ) → k ≤ 32 → cond (nat_lt 32 k) (Some TooDeep) None ≡ None
  not_deep k fits = cond-false (nat_lt 32 k) (Some TooDeep) None (le-ltb 32 k fits)

  pub variables_fault : (xs : List Spot) → All (λ x. x.set < n) xs → (dues : List Due) (rest : List Item)
      → fault n long (replicate (length xs) variable ++ dues) (map variable_item xs ++ rest) ≡ fault n long dues rest
  variables_fault [] fits dues rest = refl
  variables_fault (x ∷ xs) fits dues rest =
      later_none (cond (nat_lt x.set n) None (Some TooManyVariables)) x.place _ (has_set x.set (All-head (λ y. y.set < n) x xs fits))
      ∙ variables_fault xs (All-tail (λ y. y.set < n) x xs fits) dues rest

  pub claim_fault : (k : ℕ) (f : Claim) → Fits n k f → (dues : List Due) (rest : List Item)
      → fault n long (formula k ∷ dues) (spelled f rest) ≡ fault n long dues rest
  claim_fault k (atom at p spots) fits dues rest = later_none _ at _ (not_deep k fits.0) ∙ variables_fault spots fits.1 dues rest
  claim_fault k (denial at f) fits dues rest = later_none _ at _ (not_deep k fits.0) ∙ claim_fault (k + 1) f fits.1 dues rest
  claim_fault k (and at f g) fits dues rest =
      later_none _ at _ (not_deep k fits.0) ∙ claim_fault (k + 1) f fits.1 (formula (k + 1) ∷ dues) (spelled g rest) ∙ claim_fault (k + 1) g fits.2 dues rest
  claim_fault k (or at f g) fits dues rest =
      later_none _ at _ (not_deep k fits.0) ∙ claim_fault (k + 1) f fits.1 (formula (k + 1) ∷ dues) (spelled g rest) ∙ claim_fault (k + 1) g fits.2 dues rest
  claim_fault k (implies at f g) fits dues rest =
      later_none _ at _ (not_deep k fits.0) ∙ claim_fault (k + 1) f fits.1 (formula (k + 1) ∷ dues) (spelled g rest) ∙ claim_fault (k + 1) g fits.2 dues rest
  claim_fault k (some at x f) fits dues rest =
      later_none _ at _ (not_deep k fits.0) ∙ later_none _ x.place _ (has_set x.set fits.1) ∙ claim_fault (k + 1) f fits.2 dues rest
  claim_fault k (every at x f) fits dues rest =
      later_none _ at _ (not_deep k fits.0) ∙ later_none _ x.place _ (has_set x.set fits.1) ∙ claim_fault (k + 1) f fits.2 dues rest
