-- A plan that grows: steps behind those of before, variables noted, and the letters around them still bound.
use Rattle.std.proofs.Common.{◌≡◌, ℕ, zero, suc, ◌+◌, ◌<◌, ◌≤◌, List, [], ◌∷◌, ◌++◌, length, take, drop, map, sym, refl, ap, ◌∙◌, subst, arith}
use Rattle.std.proofs.lemmas.List.{append_assoc, append-nil, take-append-le, length-take-le}
use Rattle.grammar.specs.declared.plan.Plan.{Plan}
use Rattle.grammar.specs.declared.source.Source.{Source}
use Rattle.grammar.specs.declared.step.Spot.{Spot}
use Rattle.grammar.specs.Claims.{Claim, free as free_of}
use Rattle.grammar.specs.Steps.{Call, step_of, steps as steps_of}
use Rattle.grammar.specs.Written.{written, Notes, SameBehind, Writes, Adds}
use Rattle.grammar.specs.Reading.{ReadsClaim}
use Rattle.grammar.proofs.Keeping.{same_later, same_then}

pub record Grows (depth : ℕ) (p p' : Plan) (more : List (ℕ × Call)) (freed : List Spot) : Type 0 where
  pub steps : written p' ≡ written p ++ more
  pub notes : (spots : List Spot) → Notes p.free spots → Notes p'.free (spots ++ freed)
  pub bound : take depth p'.bound ≡ take depth p.bound
  pub kept : SameBehind p'.used p.steps.now p'.steps.now
  pub later : p.used ≤ p'.used

pub grows_then : (depth : ℕ) (p q r : Plan) (more more' : List (ℕ × Call)) (freed freed' : List Spot) → Grows depth p q more freed
    → Grows depth q r more' freed' → Grows depth p r (more ++ more') (freed ++ freed')
grows_then depth p q r more more' freed freed' a b = record {
  steps = b.steps ∙ ap (λ xs. xs ++ more') a.steps ∙ append_assoc (written p) more more';
  notes = λ spots given. subst (Notes r.free) (append_assoc spots freed freed') (b.notes (spots ++ freed) (a.notes spots given));
  bound = b.bound ∙ a.bound;
  kept = same_then r.used p.steps.now q.steps.now r.steps.now (same_later q.used r.used b.later p.steps.now q.steps.now a.kept) b.kept;
  later = omega (arith, a.later, b.later);
}

pub grows_as : (depth : ℕ) (p q : Plan) (more more' : List (ℕ × Call)) (freed freed' : List Spot) → more ≡ more' → freed ≡ freed' → Grows depth p q more freed
    → Grows depth p q more' freed'
grows_as depth p q more more' freed freed' e e' g = subst (λ xs. Grows depth p q more' xs) e' (subst (λ xs. Grows depth p q xs freed) e g)

-- steps alone; and a predicate's step with its variables
pub grows_writes : (depth : ℕ) (p q : Plan) (more : List (ℕ × Call)) → Writes p q more → Grows depth p q more []
grows_writes depth p q more w = record {
  steps = w.0.0;
  notes = λ spots given. subst (Notes q.free) (sym (append-nil spots)) (subst (λ noted. Notes noted spots) (sym w.2) given);
  bound = ap (take depth) w.1;
  kept = w.0.2;
  later = omega (arith, w.0.1);
}

pub grows_adds : (depth : ℕ) (p q : Plan) (more : List (ℕ × Call)) (freed : List Spot) → Adds p q more freed → Grows depth p q more freed
grows_adds depth p q more freed w = record { steps = w.0.0; notes = w.2; bound = ap (take depth) w.1; kept = w.0.2; later = omega (arith, w.0.1) }

-- a part
pub grows_claim : (s : Source) (left depth at : ℕ) (p q : Plan) (next : ℕ) (f : Claim) → ReadsClaim s left depth at p q next f
    → Grows depth p q (steps_of f) (free_of (take depth p.bound) f)
grows_claim s left depth at p q next f r = record { steps = r.steps; notes = r.free; bound = r.bound; kept = r.room.3; later = r.room.5 }

-- fewer letters than are bound
take_within : (d k : ℕ) (xs : List ℕ) → d ≤ k → take d (take k xs) ≡ take d xs
take_within zero k xs few = refl
take_within (suc d) zero xs few = absurd (omega (arith, few))
take_within (suc d) (suc k) [] few = refl
take_within (suc d) (suc k) (x ∷ xs) few = ap (λ ys. x ∷ ys) (take_within d k xs (omega (arith, few)))

take_fewer : (depth : ℕ) (xs ys : List ℕ) → take (depth + 1) xs ≡ take (depth + 1) ys → take depth xs ≡ take depth ys
take_fewer depth xs ys e = sym (take_within depth (depth + 1) xs (omega arith)) ∙ ap (take depth) e ∙ take_within depth (depth + 1) ys (omega arith)

pub grows_fewer : (depth : ℕ) (p q : Plan) (more : List (ℕ × Call)) (freed : List Spot) → Grows (depth + 1) p q more freed → Grows depth p q more freed
grows_fewer depth p q more freed g = record { steps = g.steps; notes = g.notes; bound = take_fewer depth q.bound p.bound g.bound; kept = g.kept; later = g.later }

-- a letter is bound inside of the others
pub grows_bind : (depth letter : ℕ) (p q : Plan) → depth < length p.bound → take (depth + 1) q.bound ≡ take depth p.bound ++ letter ∷ []
    → (q.used ≡ p.used) × (q.steps ≡ p.steps) × (q.free ≡ p.free) → Grows depth p q [] []
grows_bind depth letter p q deep is same = record {
  steps = ap (λ k. map step_of (take k q.steps.now)) same.0 ∙ ap (λ m. map step_of (take p.used m.now)) same.1 ∙ sym (append-nil (written p));
  notes = λ spots given. subst (Notes q.free) (sym (append-nil spots)) (subst (λ noted. Notes noted spots) (sym same.2) given);
  bound = sym (take_within depth (depth + 1) q.bound (omega arith)) ∙ ap (take depth) is
      ∙ take-append-le depth (take depth p.bound) (letter ∷ []) (omega (arith, length-take-le depth p.bound (omega (arith, deep))))
      ∙ take_within depth depth p.bound (omega arith);
  kept = record { long = ap (λ m. length m.now) same.1; behind = ap (λ m. drop q.used m.now) same.1 };
  later = omega (arith, same.0);
}
