-- Lists of checks: those of a first list, and then those of a second.
use Rattle.std.proofs.Common.{◌≡◌, ℕ, ◌+◌, ◌*◌, ◌<◌, ◌≤◌, ◌⊎◌, List, [], ◌∷◌, ◌++◌, refl, inl, inr, ⊎_elim, mul-le-mul_right, arith}
use Rattle.std.proofs.lemmas.Bool.{cases_eq, cases_lt}
use Rattle.words.specs.Residuals.{Equality, Count, MoreThan}
use Rattle.words.proofs.Counts.{within}
use Rattle.tray.specs.Checks.{FirstFailed, AllPass}
use Rattle.tray.specs.Calls.{too_many}

-- one of the first list fails
pub fails_early : (first later : List (ℕ × Type 0)) (k : ℕ) → FirstFailed first k → FirstFailed (first ++ later) k
fails_early [] later k f = absurd f
fails_early (x ∷ first) later k (inl f) = inl f
fails_early (x ∷ first) later k (inr f) = inr (f.0, fails_early first later k f.1)

-- the first list passes, and then one of the second fails, or none
pub fails_late : (first later : List (ℕ × Type 0)) (k : ℕ) → AllPass first → FirstFailed later k → FirstFailed (first ++ later) k
fails_late [] later k p f = f
fails_late (x ∷ first) later k p f = inr (p.0, fails_late first later k p.1 f)

pub all_pass : (first later : List (ℕ × Type 0)) → AllPass first → AllPass later → AllPass (first ++ later)
all_pass [] later p q = q
all_pass (x ∷ first) later p q = (p.0, all_pass first later p.1 q)

-- a building call that passes its early checks, and meets at most as many states as the budget, passes them all
pub passes : (early : List (ℕ × Type 0)) (n : ℕ) (Same : List ℕ → List ℕ → Type 0) (budget met : ℕ) → Equality Same
    → AllPass early → met ≤ budget → Count n Same met → AllPass (early ++ too_many n Same budget)
passes early n Same budget met equal p few counted = all_pass early (too_many n Same budget) p (within n Same equal met budget few counted, tt)

pub exceeds : (early : List (ℕ × Type 0)) (n : ℕ) (Same : List ℕ → List ℕ → Type 0) (budget : ℕ)
    → AllPass early → MoreThan n Same budget → FirstFailed (early ++ too_many n Same budget) 23
exceeds early n Same budget p more = fails_late early (too_many n Same budget) 23 p (inl (refl, more))

-- a check that fails unless an equation holds passes only if it holds
pub must_equal : (a b : ℕ) → ((a ≡ b → ⊥) → ⊥) → a ≡ b
must_equal a b pass = ⊎_elim (λ e. e) (λ other. absurd (pass other)) (cases_eq a b)

-- what passed checks say
pub not_above : (a b : ℕ) → (a ≤ b → ⊥) → b < a
not_above a b pass = ⊎_elim (λ l. l) (λ l. absurd (pass l)) (cases_lt b a)

pub not_below : (a b : ℕ) → (a < b → ⊥) → b ≤ a
not_below a b pass = ⊎_elim (λ l. absurd (pass l)) (λ l. l) (cases_lt a b)

pub neither_below : (a b d e : ℕ) → ((a < b) ⊎ (d < e) → ⊥) → (b ≤ a) × (e ≤ d)
neither_below a b d e pass = (not_below a b (λ l. pass (inl l)), not_below d e (λ l. pass (inr l)))

-- slot k of d slots is among them
pub within_slots : (d k s long : ℕ) → k < d → d * s ≤ long → k * s + s ≤ long
within_slots d k s long h room = omega (arith, mul-le-mul_right s h)
