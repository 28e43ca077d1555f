-- The whole text: one claim, and then the steps of its free positions.
use Rattle.std.proofs.Common.{◌≡◌, ℕ, suc, ◌+◌, ◌*◌, ◌<◌, ◌≤◌, [], ◌∷◌, ◌++◌, length, take, map, Some, None, Option, Ok, get_or, refl, sym, ap, ◌∙◌, subst, arith}
use Rattle.std.proofs.lemmas.List.{append_assoc, append-nil}
use Rattle.grammar.specs.declared.flaw.Flawed.{Flawed}
use Rattle.grammar.specs.declared.plan.Plan.{Plan}
use Rattle.grammar.specs.declared.source.Source.{Source}
use Rattle.grammar.specs.Limits.{most_open, most_sets}
use Rattle.grammar.specs.Claims.{Claim, spelled, Fits, free as free_of}
use Rattle.grammar.specs.Faults.{formula, fault}
use Rattle.grammar.specs.Steps.{step_of, steps as steps_of, first_free, alone, alone_at, positions}
use Rattle.grammar.specs.Sources.{left_of}
use Rattle.grammar.specs.Written.{written, Notes, SameBehind, Writes}
use Rattle.grammar.specs.Reading.{ReadsClaim, PlansFormula}
use Rattle.grammar.proofs.Keeping.{same_later, same_then}
use Rattle.grammar.proofs.Spelling.{claim_fault}

-- the claim was read, and from then on the steps for its free positions with sets below k are planned
pub record Positioned (s : Source) (start : Plan) (k : ℕ) (p : Plan) (f : Claim) : Type 0 where
  pub spells : s.items.now ≡ spelled f []
  pub fits : Fits s.sets 0 f
  pub steps : written p ≡ steps_of f ++ positions k (free_of [] f)
  pub notes : Notes p.free (free_of [] f)
  pub used : p.used ≤ 3 * length s.items.now + 2 * k
  pub kept : SameBehind p.used start.steps.now p.steps.now
  pub later : start.used ≤ p.used
  pub room : p.used ≤ length p.steps.now

module _ (s : Source) (p q : Plan) (next : ℕ) (f : Claim) (a : ReadsClaim s most_open 0 0 p q next f) (used : p.used ≡ 0)
  where
    -- what is left behind the claim has its fault
    pub more_fault : (e : Flawed) → fault s.sets s.end [] (left_of s next) ≡ Some (e.flaw, e.place)
        → fault s.sets s.end (formula 0 ∷ []) s.items.now ≡ Some (e.flaw, e.place)
    more_fault e h = ap (fault s.sets s.end (formula 0 ∷ [])) a.spells ∙ claim_fault s.sets s.end 0 f a.fits [] (left_of s next) ∙ h

    pub begin_positions : (k : ℕ) → k ≡ 0 → Notes p.free [] → left_of s next ≡ [] → Positioned s q k q f
    begin_positions k first none ends = subst (λ j. Positioned s q j q f) (sym first) record {
      spells = a.spells ∙ ap (spelled f) ends;
      fits = a.fits;
      steps = a.steps ∙ ap (λ k. map step_of (take k p.steps.now) ++ steps_of f) used ∙ sym (append-nil (steps_of f));
      notes = a.free [] none;
      used = omega (arith, a.room.2, a.room.0, used);
      kept = record { long = refl; behind = refl };
      later = omega arith;
      room = a.room.4;
    }

module _ (s : Source) (start : Plan) (k : ℕ) (p : Plan) (f : Claim) (a : Positioned s start k p f) (low : k < most_sets) where
  next_positions : positions k (free_of [] f) ++ alone_at k (first_free k (free_of [] f)) ≡ positions (k + 1) (free_of [] f)
  next_positions = let next : suc k ≡ k + 1 = omega arith in ap (λ j. positions j (free_of [] f)) next

  skip_steps : (r : Option ℕ) → r ≡ None → positions k (free_of [] f) ≡ positions k (free_of [] f) ++ alone_at k r
  skip_steps r e = sym (ap (λ x. positions k (free_of [] f) ++ alone_at k x) e ∙ append-nil (positions k (free_of [] f)))

  -- no position has this set
  pub none_here : get_or p.free k None ≡ None → Positioned s start (k + 1) p f
  none_here none = record {
    spells = a.spells;
    fits = a.fits;
    steps = a.steps ∙ ap (λ xs. steps_of f ++ xs) (skip_steps (first_free k (free_of [] f)) (sym (a.notes k low) ∙ none) ∙ next_positions);
    notes = a.notes;
    used = omega (arith, a.used);
    kept = a.kept;
    later = a.later;
    room = a.room;
  }

  -- one has, and its steps were planned
  pub one_here : (place : ℕ) (q : Plan) → get_or p.free k None ≡ Some place → Writes p q (alone place k) → Positioned s start (k + 1) q f
  one_here place q there w = record {
    spells = a.spells;
    fits = a.fits;
    steps = w.0.0 ∙ ap (λ xs. xs ++ alone place k) a.steps ∙ append_assoc (steps_of f) (positions k (free_of [] f)) (alone place k)
        ∙ ap (λ r. steps_of f ++ (positions k (free_of [] f) ++ alone_at k r)) (sym there ∙ a.notes k low)
        ∙ ap (λ xs. steps_of f ++ xs) next_positions;
    notes = subst (λ noted. Notes noted (free_of [] f)) (sym w.2) a.notes;
    used = omega (arith, a.used, w.0.1);
    kept = same_then q.used start.steps.now p.steps.now q.steps.now (same_later p.used q.used (omega (arith, w.0.1)) start.steps.now p.steps.now a.kept) w.0.2;
    later = omega (arith, a.later, w.0.1);
    room = w.0.3;
  }

-- all of them are planned
pub positions_planned : (s : Source) (p q r : Plan) (next : ℕ) (f g : Claim) → ReadsClaim s most_open 0 0 p q next f → Positioned s q s.sets r g
    → PlansFormula s p r (Ok tt)
positions_planned s p q r next f g a b = (
  same_then r.used p.steps.now q.steps.now r.steps.now (same_later q.used r.used b.later p.steps.now q.steps.now a.room.3) b.kept,
  b.room,
  g,
  b.spells,
  b.fits,
  b.steps,
)
