-- What a search over the numbers below a bound has found.
use Rattle.std.proofs.Common.{◌≡◌, ℕ, ◌<◌, ◌≤◌, Some, None, Option, MatchOption, Decides, is_some, true, false, sym, refl, arith}
use Rattle.std.proofs.lemmas.Bool.{false≢true}

module _ (n : ℕ) (Yes No : ℕ → Type 0) (First : ℕ → Type 0) where
  pub found : (r : Option ℕ) → MatchOption r ((k : ℕ) → 0 ≤ k → k < n → No k) (λ i. (0 ≤ i) × (i < n) × Yes i × First i)
      → MatchOption r ((k : ℕ) → k < n → No k) (λ i. (i < n) × Yes i)
  found None h = λ k l. h k (omega arith) l
  found (Some i) h = (h.1, h.2)

-- whether something is found
pub is_found : (No : Type 0) (Yes : ℕ → Type 0) (r : Option ℕ) → MatchOption r No Yes → (No → (i : ℕ) × Yes i → ⊥) → Decides (is_some r) ((i : ℕ) × Yes i)
is_found No Yes None h none = ((λ e. absurd (false≢true e)), (λ y. absurd (none h y)))
is_found No Yes (Some i) h none = ((λ e. (i, h)), (λ y. refl))

module _ (n : ℕ) (P : ℕ → Type 0) where
  pub some_found : (r : Option ℕ) → is_some r ≡ true → MatchOption r ((k : ℕ) → k < n → P k → ⊥) (λ k. (k < n) × P k) → (k : ℕ) × (k < n) × P k
  some_found None e h = absurd (false≢true e)
  some_found (Some i) e h = (i, h.0, h.1)

  pub none_found : (r : Option ℕ) → is_some r ≡ false → MatchOption r ((k : ℕ) → k < n → P k → ⊥) (λ k. (k < n) × P k) → (k : ℕ) × (k < n) × P k → ⊥
  none_found None e h x = h x.0 x.1 x.2
  none_found (Some i) e h x = absurd (false≢true (sym e))
