-- Lists of checks whose last one is said in other words.
use Rattle.std.proofs.Common.{ℕ, List, [], ◌∷◌, ◌++◌, inl, inr}
use Rattle.tray.specs.Checks.{FirstFailed, AllPass}

-- the last check fails in the one reading where it does in the other, if those before it pass
pub last_fails : (early : List (ℕ × Type 0)) (m : ℕ) (P Q : Type 0) (k : ℕ) → (AllPass early → P → Q) → (AllPass early → Q → P)
    → FirstFailed (early ++ ((m, P) ∷ [])) k → FirstFailed (early ++ ((m, Q) ∷ [])) k
last_fails [] m P Q k to from (inl h) = inl (h.0, to tt h.1)
last_fails [] m P Q k to from (inr h) = absurd h.1
last_fails (x ∷ early) m P Q k to from (inl h) = inl h
last_fails (x ∷ early) m P Q k to from (inr h) = inr (h.0, last_fails early m P Q k (λ p. to (h.0, p)) (λ p. from (h.0, p)) h.1)

pub last_passes : (early : List (ℕ × Type 0)) (m : ℕ) (P Q : Type 0) → (AllPass early → Q → P)
    → AllPass (early ++ ((m, P) ∷ [])) → AllPass (early ++ ((m, Q) ∷ []))
last_passes [] m P Q from h = ((λ q. h.0 (from tt q)), tt)
last_passes (x ∷ early) m P Q from h = (h.0, last_passes early m P Q (λ p. from (h.0, p)) h.1)

-- those before the last one pass
pub early_pass : (early later : List (ℕ × Type 0)) → AllPass (early ++ later) → AllPass early
early_pass [] later h = tt
early_pass (x ∷ early) later h = (h.0, early_pass early later h.1)
