-- What the definitions of claims, items and faults come to.
use Rattle.std.specs.Prelude.{◌≡◌, ℕ, List, [], ◌∷◌, None, ◌↔◌}
use Rattle.tokens.specs.declared.item.Item.{Item}
use Rattle.grammar.specs.Claims.{Claim, spelled, Fits}
use Rattle.grammar.specs.Faults.{formula, fault}

pub record TextLaws : Type 0 where
  -- a text reads as at most one claim
  pub one_claim : (items : List Item) (f g : Claim) → items ≡ spelled f [] → items ≡ spelled g [] → f ≡ g
  -- over n sets, in a text of so many bytes: the items have no fault exactly when they spell a claim within the limits
  pub no_fault : (n long : ℕ) (items : List Item)
      → (fault n long (formula 0 ∷ []) items ≡ None) ↔ ((f : Claim) × (items ≡ spelled f []) × Fits n 0 f)
