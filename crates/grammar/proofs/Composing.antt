-- A claim is read from its parts.
use Rattle.std.proofs.Common.{◌≡◌, ℕ, Bool, true, false, cond, nat_lt, ◌+◌, ◌-◌, ◌*◌, ◌<◌, ◌≤◌, List, [], ◌∷◌, ◌++◌, length, take, map, filter, not, All, Some, None, sym, refl, ap, ◌∙◌, subst, arith}
use Rattle.std.proofs.lemmas.List.{append-nil, length-append, length-take-le}
use Rattle.std.proofs.lemmas.Bool.{cond-false, le-ltb}
use Rattle.std.proofs.lemmas.List.Elements.{All-cons, All-nil}
use Rattle.tokens.specs.declared.item.Item.{Item}
use Rattle.tokens.specs.declared.mark.Mark.{Mark}
use Rattle.tokens.specs.declared.mark.Mark.TheVariants.{Not}
use Rattle.grammar.specs.declared.flaw.Flaw.TheVariants.{TooDeep}
use Rattle.grammar.specs.declared.flaw.Flawed.{Flawed}
use Rattle.grammar.specs.declared.plan.Plan.{Plan}
use Rattle.grammar.specs.declared.source.Connective.{Connective}
use Rattle.grammar.specs.declared.source.Connective.TheVariants.{Both as both-parts, Either as either-part, Implies as implied-part}
use Rattle.grammar.specs.declared.source.Quantifier.{Quantifier}
use Rattle.grammar.specs.declared.source.Quantifier.TheVariants.{Some as for-some, Every as for-every}
use Rattle.grammar.specs.declared.source.Opening.{Opening}
use Rattle.grammar.specs.declared.source.Source.{Source}
use Rattle.grammar.specs.declared.step.Spot.{Spot}
use Rattle.grammar.specs.Claims.{Claim, is_position, atom, denial, and, or, implies, some, every, mark_item, name_item, variable_item, spelled, Fits, among, free as free_of}
use Rattle.grammar.specs.Faults.{Due, formula, variable, parts, or_later, fault}
use Rattle.grammar.specs.Steps.{place as place_call, negate, hide, alone, hiding, steps as steps_of}
use Rattle.grammar.specs.Sources.{left_of, opened_item, Faulty, mark_of_connective, mark_of_quantifier}
use Rattle.grammar.specs.Written.{Writes, Adds, between, joined_by, quantified}
use Rattle.grammar.specs.Reading.{ReadsClaim}
use Rattle.grammar.proofs.Spelling.{claim_fault, variables_fault}
use Rattle.grammar.proofs.Growing.{Grows, grows_then, grows_as, grows_writes, grows_adds, grows_claim, grows_fewer, grows_bind}

-- the claim that a connective makes of two parts, and that a quantifier makes of one
abbrev pub connected : ℕ → Connective → Claim → Claim → Claim
connected at both-parts f g = and at f g
connected at either-part f g = or at f g
connected at implied-part f g = implies at f g

abbrev pub bound_by : ℕ → Quantifier → Spot → Claim → Claim
bound_by at for-some x f = some at x f
bound_by at for-every x f = every at x f

-- what they spell, and the steps that they take
connected_spelled : (at : ℕ) (c : Connective) (f g : Claim) (rest : List Item)
    → mark_item at (mark_of_connective c) ∷ spelled f (spelled g rest) ≡ spelled (connected at c f g) rest
connected_spelled at both-parts f g rest = refl
connected_spelled at either-part f g rest = refl
connected_spelled at implied-part f g rest = refl

bound_spelled : (at : ℕ) (q : Quantifier) (x : Spot) (f : Claim) (rest : List Item)
    → mark_item at (mark_of_quantifier q) ∷ (variable_item x ∷ spelled f rest) ≡ spelled (bound_by at q x f) rest
bound_spelled at for-some x f rest = refl
bound_spelled at for-every x f rest = refl

connected_fits : (n k at : ℕ) (c : Connective) (f g : Claim) → k ≤ 32 → Fits n (k + 1) f → Fits n (k + 1) g → Fits n k (connected at c f g)
connected_fits n k at both-parts f g low a b = (low, a, b)
connected_fits n k at either-part f g low a b = (low, a, b)
connected_fits n k at implied-part f g low a b = (low, a, b)

bound_fits : (n k at : ℕ) (q : Quantifier) (x : Spot) (f : Claim) → k ≤ 32 → x.set < n → Fits n (k + 1) f → Fits n k (bound_by at q x f)
bound_fits n k at for-some x f low there a = (low, there, a)
bound_fits n k at for-every x f low there a = (low, there, a)

connected_steps : (at : ℕ) (c : Connective) (f g : Claim) → steps_of f ++ (between at c ++ (steps_of g ++ joined_by at c)) ≡ steps_of (connected at c f g)
connected_steps at both-parts f g = refl
connected_steps at either-part f g = refl
connected_steps at implied-part f g = refl

bound_steps : (at : ℕ) (q : Quantifier) (x : Spot) (f : Claim) → steps_of f ++ quantified at q x ≡ steps_of (bound_by at q x f)
bound_steps at for-some x f = refl
bound_steps at for-every x f = refl

connected_free : (bound : List ℕ) (at : ℕ) (c : Connective) (f g : Claim) → free_of bound f ++ free_of bound g ≡ free_of bound (connected at c f g)
connected_free bound at both-parts f g = refl
connected_free bound at either-part f g = refl
connected_free bound at implied-part f g = refl

bound_free : (bound : List ℕ) (at : ℕ) (q : Quantifier) (x : Spot) (f : Claim) → free_of (bound ++ x.letter ∷ []) f ≡ free_of bound (bound_by at q x f)
bound_free bound at for-some x f = refl
bound_free bound at for-every x f = refl

two_parts : (k : ℕ) (c : Connective) → parts k (mark_of_connective c) ≡ formula (k + 1) ∷ formula (k + 1) ∷ []
two_parts k both-parts = refl
two_parts k either-part = refl
two_parts k implied-part = refl

variable_part : (k : ℕ) (q : Quantifier) → parts k (mark_of_quantifier q) ≡ variable ∷ formula (k + 1) ∷ []
variable_part k for-some = refl
variable_part k for-every = refl

-- at most one step, and at most five
pub between_few : (at : ℕ) (c : Connective) → length (between at c) + length (joined_by at c) ≤ 2
between_few at both-parts = omega arith
between_few at either-part = omega arith
between_few at implied-part = omega arith

hiding_few : (at : ℕ) (x : Spot) → length (hiding at x) ≤ 3
hiding_few at x = go (is_position x)
  where
    go : (b : Bool) → length (cond b (alone at x.set) [] ++ (at, hide x.set) ∷ []) ≤ 3
    go true = omega arith
    go false = omega arith

quantified_few : (at : ℕ) (q : Quantifier) (x : Spot) → length (quantified at q x) ≤ 5
quantified_few at for-some x = omega (arith, hiding_few at x)
quantified_few at for-every x = omega (arith, hiding_few at x, length-append (hiding at x) ((at, negate) ∷ []))

module _ (s : Source) (left depth at place : ℕ) (low : 1 ≤ left) (most : left ≤ 33) where
  -- a part stands inside one formula more
  deeper : 33 - (left - 1) ≡ (33 - left) + 1
  deeper = omega (arith, low, most)

  here_fits : 33 - left ≤ 32
  here_fits = omega (arith, low)

  inner_faulty : (i : ℕ) (e : Flawed) → Faulty s i (formula (33 - (left - 1)) ∷ []) e → Faulty s i (formula (33 - left + 1) ∷ []) e
  inner_faulty i e h = subst (λ k. Faulty s i (formula k ∷ []) e) deeper h

  inner_fits : (f : Claim) → Fits s.sets (33 - (left - 1)) f → Fits s.sets (33 - left + 1) f
  inner_fits f h = subst (λ k. Fits s.sets k f) deeper h

  -- a mark leaves the fault to the parts of its formula
  opened_fault : (m : Mark) → left_of s at ≡ mark_item place m ∷ left_of s (at + 1) → (dues : List Due)
      → fault s.sets s.end (formula (33 - left) ∷ dues) (left_of s at) ≡ fault s.sets s.end (parts (33 - left) m ++ dues) (left_of s (at + 1))
  opened_fault m here dues =
      ap (fault s.sets s.end (formula (33 - left) ∷ dues)) here
      ∙ ap (λ r. or_later r place (fault s.sets s.end (parts (33 - left) m ++ dues) (left_of s (at + 1))))
      (cond-false (nat_lt 32 (33 - left)) (Some TooDeep) None (le-ltb 32 (33 - left) here_fits))

  from_parts : (p r : Plan) (next : ℕ) (f : Claim) → left_of s at ≡ spelled f (left_of s next) → Fits s.sets (33 - left) f
      → Grows depth p r (steps_of f) (free_of (take depth p.bound) f) → next ≤ length s.items.now → at < next → r.used + 3 * at ≤ p.used + 3 * next
      → r.used ≤ length r.steps.now → ReadsClaim s left depth at p r next f
  from_parts p r next f spells fits g within more used room = record {
    spells = spells;
    fits = fits;
    steps = g.steps;
    free = g.notes;
    bound = g.bound;
    room = (within, more, used, g.kept, room, g.later);
  }

  module _ (here : left_of s at ≡ mark_item place Not ∷ left_of s (at + 1)) where
    pub denial_fault : (e : Flawed) → Faulty s (at + 1) (formula (33 - (left - 1)) ∷ []) e → Faulty s at (formula (33 - left) ∷ []) e
    denial_fault e h dues = opened_fault Not here dues ∙ inner_faulty (at + 1) e h dues

    pub denial_read : (p q r : Plan) (next : ℕ) (f : Claim) → ReadsClaim s (left - 1) depth (at + 1) p q next f → Writes q r ((place, negate) ∷ [])
        → ReadsClaim s left depth at p r next (denial place f)
    denial_read p q r next f a w =
        let bound : List ℕ = take depth p.bound in
        from_parts p r next (denial place f) (here ∙ ap (λ xs. mark_item place Not ∷ xs) a.spells) (here_fits, inner_fits f a.fits)
        (grows_as depth p r _ _ _ _ refl (append-nil (free_of bound f))
        (grows_then depth p q r (steps_of f) ((place, negate) ∷ []) (free_of bound f) [] (grows_claim s (left - 1) depth (at + 1) p q next f a)
        (grows_writes depth q r ((place, negate) ∷ []) w)))
        a.room.0 (omega (arith, a.room.1)) (omega (arith, a.room.2, w.0.1)) w.0.3

  module _ (c : Connective) (here : left_of s at ≡ mark_item place (mark_of_connective c) ∷ left_of s (at + 1)) where
    both_due : (dues : List Due) → fault s.sets s.end (formula (33 - left) ∷ dues) (left_of s at)
        ≡ fault s.sets s.end (formula (33 - left + 1) ∷ (formula (33 - left + 1) ∷ dues)) (left_of s (at + 1))
    both_due dues =
        opened_fault (mark_of_connective c) here dues ∙ ap (λ ds. fault s.sets s.end (ds ++ dues) (left_of s (at + 1))) (two_parts (33 - left) c)

    pub left_fault : (e : Flawed) → Faulty s (at + 1) (formula (33 - (left - 1)) ∷ []) e → Faulty s at (formula (33 - left) ∷ []) e
    left_fault e h dues = both_due dues ∙ inner_faulty (at + 1) e h (formula (33 - left + 1) ∷ dues)

    pub right_fault : (p q : Plan) (middle : ℕ) (f : Claim) (e : Flawed) → ReadsClaim s (left - 1) depth (at + 1) p q middle f
        → Faulty s middle (formula (33 - (left - 1)) ∷ []) e → Faulty s at (formula (33 - left) ∷ []) e
    right_fault p q middle f e a h dues =
        both_due dues ∙ ap (fault s.sets s.end (formula (33 - left + 1) ∷ (formula (33 - left + 1) ∷ dues))) a.spells
        ∙ claim_fault s.sets s.end (33 - left + 1) f (inner_fits f a.fits) (formula (33 - left + 1) ∷ dues) (left_of s middle) ∙ inner_faulty middle e h dues

    pub connected_read : (p q r t u : Plan) (middle next : ℕ) (f g : Claim) → ReadsClaim s (left - 1) depth (at + 1) p q middle f → Writes q r (between place c)
        → ReadsClaim s (left - 1) depth middle r t next g → Writes t u (joined_by place c) → ReadsClaim s left depth at p u next (connected place c f g)
    connected_read p q r t u middle next f g a v b w =
        let bound : List ℕ = take depth p.bound in
        let bound' : List ℕ = take depth r.bound in
        let same : bound' ≡ bound = ap (take depth) v.1 ∙ a.bound in
        from_parts p u next (connected place c f g)
        (here ∙ ap (λ xs. mark_item place (mark_of_connective c) ∷ xs) (a.spells ∙ ap (spelled f) b.spells) ∙ connected_spelled place c f g (left_of s next))
        (connected_fits s.sets (33 - left) place c f g here_fits (inner_fits f a.fits) (inner_fits g b.fits))
        (grows_as depth p u _ _ _ _ (connected_steps place c f g)
        (ap (λ xs. free_of bound f ++ xs) (append-nil (free_of bound' g) ∙ ap (λ ls. free_of ls g) same) ∙ connected_free bound place c f g)
        (grows_then depth p q u (steps_of f) (between place c ++ (steps_of g ++ joined_by place c)) (free_of bound f) (free_of bound' g ++ [])
        (grows_claim s (left - 1) depth (at + 1) p q middle f a)
        (grows_then depth q r u (between place c) (steps_of g ++ joined_by place c) [] (free_of bound' g ++ []) (grows_writes depth q r (between place c) v)
        (grows_then depth r t u (steps_of g) (joined_by place c) (free_of bound' g) [] (grows_claim s (left - 1) depth middle r t next g b)
        (grows_writes depth t u (joined_by place c) w)))))
        b.room.0 (omega (arith, a.room.1, b.room.1)) (omega (arith, a.room.2, v.0.1, b.room.2, w.0.1, between_few place c)) w.0.3

  module _ (q : Quantifier) (x : Spot) (here : left_of s at ≡ mark_item place (mark_of_quantifier q) ∷ left_of s (at + 1))
      (there : left_of s (at + 1) ≡ variable_item x ∷ left_of s (at + 2)) (has : x.set < s.sets)
    where
      pub part_fault : (e : Flawed) → Faulty s (at + 2) (formula (33 - (left - 1)) ∷ []) e → Faulty s at (formula (33 - left) ∷ []) e
      part_fault e h dues =
          opened_fault (mark_of_quantifier q) here dues ∙ ap (λ ds. fault s.sets s.end (ds ++ dues) (left_of s (at + 1))) (variable_part (33 - left) q)
          ∙ ap (fault s.sets s.end (variable ∷ (formula (33 - left + 1) ∷ dues))) there
          ∙ variables_fault s.sets s.end (x ∷ []) (All-cons (λ y. y.set < s.sets) x [] has (All-nil (λ y. y.set < s.sets)))
          (formula (33 - left + 1) ∷ dues) (left_of s (at + 2))
          ∙ inner_faulty (at + 2) e h dues

      pub quantified_read : (p b r t : Plan) (next : ℕ) (f : Claim) → depth < length p.bound → take (depth + 1) b.bound ≡ take depth p.bound ++ x.letter ∷ []
          → (b.used ≡ p.used) × (b.steps ≡ p.steps) × (b.free ≡ p.free) → ReadsClaim s (left - 1) (depth + 1) (at + 2) b r next f
          → Writes r t (quantified place q x) → ReadsClaim s left depth at p t next (bound_by place q x f)
      quantified_read p b r t next f deep is same a w =
          let bound : List ℕ = take depth p.bound in
          let inside : List ℕ = take (depth + 1) b.bound in
          from_parts p t next (bound_by place q x f)
          (here ∙ ap (λ xs. mark_item place (mark_of_quantifier q) ∷ xs) (there ∙ ap (λ xs. variable_item x ∷ xs) a.spells)
          ∙ bound_spelled place q x f (left_of s next))
          (bound_fits s.sets (33 - left) place q x f here_fits has (inner_fits f a.fits))
          (grows_as depth p t _ _ _ _ (bound_steps place q x f) (append-nil (free_of inside f) ∙ ap (λ ls. free_of ls f) is ∙ bound_free bound place q x f)
          (grows_then depth p b t [] (steps_of f ++ quantified place q x) [] (free_of inside f ++ []) (grows_bind depth x.letter p b deep is same)
          (grows_then depth b r t (steps_of f) (quantified place q x) (free_of inside f) []
          (grows_fewer depth b r (steps_of f) (free_of inside f) (grows_claim s (left - 1) (depth + 1) (at + 2) b r next f a))
          (grows_writes depth r t (quantified place q x) w))))
          a.room.0 (omega (arith, a.room.1)) (omega (arith, a.room.2, w.0.1, same.0, quantified_few place q x)) w.0.3

  -- a predicate on its variables
  pub atom_read : (p r : Plan) (number places : ℕ) (spots : List Spot) → left_of s at ≡ name_item place number places ∷ left_of s (at + 1)
      → places ≤ 4 → length spots ≡ 4 → at + 1 + places ≤ length s.items.now
      → left_of s (at + 1) ≡ map variable_item (take places spots) ++ left_of s (at + 1 + places) → All (λ x. x.set < s.sets) (take places spots)
      → Adds p r ((place, place_call number (map (λ x. x.set) (take places spots))) ∷ [])
      (filter (λ x. not (among x.letter (take depth p.bound))) (take places spots))
      → ReadsClaim s left depth at p r (at + 1 + places) (atom place number (take places spots))
  atom_read p r number places spots here few four within there fits w =
      let xs : List Spot = take places spots in
      let many : length xs ≡ places = length-take-le places spots (omega (arith, few, four)) in
      from_parts p r (at + 1 + places) (atom place number xs)
      (here ∙ ap (λ ys. name_item place number places ∷ ys) there
      ∙ ap (λ k. name_item place number k ∷ (map variable_item xs ++ left_of s (at + 1 + places))) (sym many))
      (here_fits, fits) (grows_adds depth p r _ _ w) within (omega arith) (omega (arith, w.0.1)) w.0.3

-- what an opening of this form stands for
pub opened_as : (s : Source) (at place : ℕ) (o o' : Opening) → o ≡ o'
    → left_of s at ≡ opened_item (record { place = place; opening = o }) ∷ left_of s (at + 1)
    → left_of s at ≡ opened_item (record { place = place; opening = o' }) ∷ left_of s (at + 1)
opened_as s at place o o' is here = here ∙ ap (λ x. opened_item (record { place = place; opening = x }) ∷ left_of s (at + 1)) is

pub variable_here : (s : Source) (at : ℕ) (x : Spot) → left_of s (at + 1) ≡ variable_item x ∷ left_of s (at + 1 + 1)
    → left_of s (at + 1) ≡ variable_item x ∷ left_of s (at + 2)
variable_here s at x there = there ∙ ap (λ k. variable_item x ∷ left_of s k) (omega arith)
