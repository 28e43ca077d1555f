-- A claim is true of what its letters stand for exactly when its formula is true of the sets that they have.
use Rattle.std.proofs.Common.{◌≡◌, ℕ, ◌^◌, Bool, true, false, not, cond, eqb, ◌↔◌, ◌⊎◌, List, [], ◌∷◌, ◌++◌, map, sym, refl, ap, ◌∙◌, subst, inl, inr, ⊎_elim}
use Rattle.std.specs.Prelude.{All}
use Rattle.std.specs.Char.{is_ascii_lowercase}
use Rattle.std.proofs.lemmas.Bool.{cases_eq, eq-eqb, ne_eqb, cond-true, cond-false, not-false}
use Rattle.std.proofs.lemmas.List.Elements.{All-head, All-tail, All-weaker}
use Rattle.words.specs.Relations.{Singleton}
use Rattle.words.specs.Formulas.{Formula, placed, single, negation, both, either, hidden, instead, Truth}
use Rattle.grammar.specs.declared.step.Spot.{Spot}
use Rattle.grammar.specs.Claims.{Claim, atom, denial, and, or, implies, some, every, is_position, among, free}
use Rattle.reading.specs.Formulas.{lone, formula_of, Decided}
use Rattle.reading.specs.Meaning.{as_set, Meaning}
use Rattle.reading.specs.Stepping.{Sure}
use Rattle.reading.proofs.Alone.{singleton_power, power_of_singleton}
use Rattle.reading.proofs.Free.{among_cases, among_neither, Loose, loose}
use Rattle.reading.proofs.Lists.{all_left, all_right, all_parted, all_joined}
use Rattle.reading.proofs.Numbering.{Known, same_set, same_letter}
use Rattle.reading.specs.MeaningLaws.{variables}

-- ---- choices with one thing changed

instead_here : (i s : ℕ) (x : ℕ → ℕ) (j : ℕ) → j ≡ i → instead i s x j ≡ s
instead_here i s x j same = cond-true (eqb j i) s (x j) (eq-eqb j i same)

instead_there : (i s : ℕ) (x : ℕ → ℕ) (j : ℕ) → (j ≡ i → ⊥) → instead i s x j ≡ x j
instead_there i s x j other = cond-false (eqb j i) s (x j) (ne_eqb j i other)

-- ---- what a hidden set ranges over

-- the set of a variable whose letter stands for this number
abbrev pub set_for : Spot → ℕ → ℕ
set_for x k = cond (is_position x) (2 ^ k) k

module _ (holds : ℕ → List ℕ → Type 0) where
  -- the set of a position has one member, and the set of a set letter is any
  pub lone_truth : (x : Spot) (f : Formula) (c : ℕ → ℕ) → Truth holds (lone x f) c ↔ (Truth holds f c × ((k : ℕ) × (c x.set ≡ set_for x k)))
  lone_truth x f c = go (is_position x)
    where
      go : (t : Bool) → Truth holds (cond t (both f (single x.set)) f) c ↔ (Truth holds f c × ((k : ℕ) × (c x.set ≡ cond t (2 ^ k) k)))
      go true = (
        (λ h. (h.0, power_of_singleton (c x.set) h.1)),
        (λ h. (h.0, subst Singleton (sym h.1.1) (singleton_power h.1.0))),
      )
      go false = ((λ h. (h, (c x.set, refl))), (λ h. h.0))

  -- a hidden set is in turn each set that the variable can have
  pub hidden_truth : (x : Spot) (f : Formula) (c : ℕ → ℕ)
      → Truth holds (hidden x.set (lone x f)) c ↔ ((k : ℕ) × Truth holds f (instead x.set (set_for x k) c))
  hidden_truth x f c = (forth, back)
    where
      forth : Truth holds (hidden x.set (lone x f)) c → (k : ℕ) × Truth holds f (instead x.set (set_for x k) c)
      forth h =
          let both_parts = (lone_truth x f (instead x.set h.0 c)).0 h.1 in
          let set_is : h.0 ≡ set_for x both_parts.1.0 = sym (instead_here x.set h.0 c x.set refl) ∙ both_parts.1.1 in
          (both_parts.1.0, subst (λ s. Truth holds f (instead x.set s c)) set_is both_parts.0)

      back : (k : ℕ) × Truth holds f (instead x.set (set_for x k) c) → Truth holds (hidden x.set (lone x f)) c
      back h =
          let s : ℕ = set_for x h.0 in
          (s, (lone_truth x f (instead x.set s c)).1 (h.1, (h.0, instead_here x.set s c x.set refl)))

  -- ---- what is decided

  pub decided_of : (f : Formula) → Sure holds f → Decided holds f
  decided_of (placed p listed) sure = sure
  decided_of (single i) sure = sure
  decided_of (negation f) sure = sure.0
  decided_of (both f g) sure = sure.0
  decided_of (either f g) sure = sure.0
  decided_of (hidden i f) sure = sure.0

  -- where every formula is decided, so is each part of one
  pub sure_of_all : ((g : Formula) → Decided holds g) → (f : Formula) → Sure holds f
  sure_of_all decided (placed p listed) = decided (placed p listed)
  sure_of_all decided (single i) = decided (single i)
  sure_of_all decided (negation f) = (decided (negation f), sure_of_all decided f)
  sure_of_all decided (both f g) = (decided (both f g), sure_of_all decided f, sure_of_all decided g)
  sure_of_all decided (either f g) = (decided (either f g), sure_of_all decided f, sure_of_all decided g)
  sure_of_all decided (hidden i f) = (decided (hidden i f), sure_of_all decided f)

  sure_alone : (x : Spot) (f : Formula) → Sure holds (lone x f) → Sure holds f
  sure_alone x f = go (is_position x)
    where
      go : (t : Bool) → Sure holds (cond t (both f (single x.set)) f) → Sure holds f
      go true sure = sure.1
      go false sure = sure

-- ---- agreement

-- the variable's set is what its letter stands for
abbrev pub Agree : (ℕ → ℕ) → (ℕ → ℕ) → Spot → Type 0
Agree c v x = c x.set ≡ as_set v x

module _ (number name : ℕ → ℕ) where
  -- Of a claim that stands where these letters are bound: letters and sets go one to one, the free variables agree, and so does each
  -- variable that has a bound letter.
  abbrev pub Agrees : List ℕ → Claim → (ℕ → ℕ) → (ℕ → ℕ) → Type 0
  Agrees bound f c v =
      All (Known number name) (variables f) × All (Agree c v) (free bound f) × All (λ z. among z.letter bound ≡ true → Agree c v z) (variables f)

  -- ---- the parts of a claim that joins two

  -- the same of lists of all variables and of the free ones
  abbrev Listed : List ℕ → List Spot → List Spot → (ℕ → ℕ) → (ℕ → ℕ) → Type 0
  Listed bound all loose c v =
      All (Known number name) all × All (Agree c v) loose × All (λ z. among z.letter bound ≡ true → Agree c v z) all

  module _ (bound : List ℕ) (f g : Claim) (c v : ℕ → ℕ)
      (agrees : Listed bound (variables f ++ variables g) (free bound f ++ free bound g) c v) where
    left : Agrees bound f c v
    left = (
      all_left (Known number name) (variables f) (variables g) agrees.0,
      all_left (Agree c v) (free bound f) (free bound g) agrees.1,
      all_left (λ z. among z.letter bound ≡ true → Agree c v z) (variables f) (variables g) agrees.2,
    )

    right : Agrees bound g c v
    right = (
      all_right (Known number name) (variables f) (variables g) agrees.0,
      all_right (Agree c v) (free bound f) (free bound g) agrees.1,
      all_right (λ z. among z.letter bound ≡ true → Agree c v z) (variables f) (variables g) agrees.2,
    )

  -- ---- the part of a quantifier

  -- a quantifier's variable y gets a number k
  module _ (y : Spot) (known_y : Known number name y) (k : ℕ) (c v : ℕ → ℕ) where
    abbrev c' : ℕ → ℕ
    c' = instead y.set (set_for y k) c

    abbrev v' : ℕ → ℕ
    v' = instead y.letter k v

    agree_there : (z : Spot) → Known number name z → (z.letter ≡ y.letter → ⊥) → Agree c v z → Agree c' v' z
    agree_there z known_z other agree =
        let apart : z.set ≡ y.set → ⊥ = λ e. other (same_letter number name z y known_z known_y e) in
        instead_there y.set (set_for y k) c z.set apart ∙ agree ∙ ap (set_for z) (sym (instead_there y.letter k v z.letter other))

    agree_here : (z : Spot) → Known number name z → z.letter ≡ y.letter → Agree c' v' z
    agree_here z known_z same =
        instead_here y.set (set_for y k) c z.set (same_set number name z y known_z known_y same)
        ∙ ap (λ l. cond (is_ascii_lowercase l) (2 ^ k) k) (sym same) ∙ ap (set_for z) (sym (instead_here y.letter k v z.letter same))

    within : (bound : List ℕ) (f : Claim) → Listed bound (y ∷ variables f) (free (bound ++ y.letter ∷ []) f) c v
        → Agrees (bound ++ y.letter ∷ []) f c' v'
    within bound f agrees = (
      known,
      all_joined (Loose (Known number name) bound') (Agree c v) (Agree c' v')
          (λ z h agree. agree_there z h.1 (among_neither z.letter bound y.letter h.0).1 agree)
          (free bound' f) (loose (Known number name) f bound' known) agrees.1,
      all_joined (Known number name) (λ z. among z.letter bound ≡ true → Agree c v z) (λ z. among z.letter bound' ≡ true → Agree c' v' z)
          (λ z known_z inside is. ⊎_elim (agree_here z known_z)
          (λ other. agree_there z known_z other (inside (⊎_elim (λ before. before) (λ same. absurd (other same)) (among_cases z.letter bound y.letter is))))
          (cases_eq z.letter y.letter))
          (variables f) known (All-tail (λ z. among z.letter bound ≡ true → Agree c v z) y (variables f) agrees.2),
    )
      where
        bound' : List ℕ
        bound' = bound ++ y.letter ∷ []

        known : All (Known number name) (variables f)
        known = All-tail (Known number name) y (variables f) agrees.0

-- ---- truth and meaning

-- the sets of variables that agree
same_sets : (c v : ℕ → ℕ) (spots : List Spot) → All (Agree c v) spots → map c (map (λ x. x.set) spots) ≡ map (as_set v) spots
same_sets c v [] agree = refl
same_sets c v (x ∷ xs) agree =
    ap (λ s. s ∷ map c (map (λ (y : Spot). y.set) xs)) (All-head (Agree c v) x xs agree)
    ∙ ap (λ s. as_set v x ∷ s) (same_sets c v xs (All-tail (Agree c v) x xs agree))

-- a variable of a predicate is free, or its letter is bound
atom_sets : (number name : ℕ → ℕ) (bound : List ℕ) (at p : ℕ) (spots : List Spot) (c v : ℕ → ℕ) → Agrees number name bound (atom at p spots) c v
    → map c (map (λ x. x.set) spots) ≡ map (as_set v) spots
atom_sets number name bound at p spots c v agrees =
    same_sets c v spots
    (all_parted (Agree c v) (λ z. not (among z.letter bound)) spots agrees.1
    (All-weaker (λ z. among z.letter bound ≡ true → Agree c v z) (λ z. not (among z.letter bound) ≡ false → Agree c v z)
    (λ z agree is. agree (not-false (among z.letter bound) is)) spots agrees.2))

-- what is as true as something else is denied as the other is
same_not : (A B : Type 0) → A ↔ B → (A → ⊥) ↔ (B → ⊥)
same_not A B e = ((λ no_a b. no_a (e.1 b)), (λ no_b a. no_b (e.0 a)))

-- parts of which each is as true as the other
module _ (A B C D : Type 0) (e : A ↔ B) (u : C ↔ D) where
  same_both : (A × C) ↔ (B × D)
  same_both = ((λ h. (e.0 h.0, u.0 h.1)), (λ h. (e.1 h.0, u.1 h.1)))

  same_either : (A ⊎ C) ↔ (B ⊎ D)
  same_either = (⊎_elim (λ a. inl (e.0 a)) (λ c. inr (u.0 c)), ⊎_elim (λ b. inl (e.1 b)) (λ d. inr (u.1 d)))

  -- an implication is a choice where its left part is decided
  same_implies : A ⊎ (A → ⊥) → ((A → ⊥) ⊎ C) ↔ (B → D)
  same_implies decided = (
    ⊎_elim (λ no_a b. absurd (no_a (e.1 b))) (λ c b. u.0 c),
    (λ h. ⊎_elim (λ a. inr (u.1 (h (e.0 a)))) (λ no_a. inl no_a) decided),
  )

-- a quantifier, where its part is as true as the part of its formula
module _ (holds : ℕ → List ℕ → Type 0) (x : Spot) (F : Formula) (f : Claim) (c v : ℕ → ℕ)
    (inner : (k : ℕ) → Truth holds F (instead x.set (set_for x k) c) ↔ Meaning holds f (instead x.letter k v)) where
  same_some : Truth holds (hidden x.set (lone x F)) c ↔ ((k : ℕ) × Meaning holds f (instead x.letter k v))
  same_some =
      let ranges = hidden_truth holds x F c in (
        (λ t. let h = ranges.0 t in (h.0, (inner h.0).0 h.1)),
        (λ m. ranges.1 (m.0, (inner m.0).1 m.1)),
      )

  same_every : Decided holds F → Truth holds (negation (hidden x.set (lone x (negation F)))) c ↔ ((k : ℕ) → Meaning holds f (instead x.letter k v))
  same_every decided =
      let ranges = hidden_truth holds x (negation F) c in (
        (λ t k. ⊎_elim (λ is. (inner k).0 is) (λ is_not. absurd (t (ranges.1 (k, is_not)))) (decided (instead x.set (set_for x k) c))),
        (λ m t. let h = ranges.0 t in h.1 ((inner h.0).1 (m h.0))),
      )

module _ (holds : ℕ → List ℕ → Type 0) (number name : ℕ → ℕ) where
  -- the sets of a claim's variables make its formula true exactly when what its letters stand for makes the claim true
  pub truth_is_meaning : (f : Claim) (bound : List ℕ) (c v : ℕ → ℕ) → Sure holds (formula_of f) → Agrees number name bound f c v
      → Truth holds (formula_of f) c ↔ Meaning holds f v
  truth_is_meaning (atom at p spots) bound c v sure agrees =
      let same = atom_sets number name bound at p spots c v agrees in
      ((λ h. subst (holds p) same h), (λ h. subst (holds p) (sym same) h))
  truth_is_meaning (denial at f) bound c v sure agrees =
      same_not _ _ (truth_is_meaning f bound c v sure.1 agrees)
  truth_is_meaning (and at f g) bound c v sure agrees =
      same_both _ _ _ _ (truth_is_meaning f bound c v sure.1 (left number name bound f g c v agrees))
      (truth_is_meaning g bound c v sure.2 (right number name bound f g c v agrees))
  truth_is_meaning (or at f g) bound c v sure agrees =
      same_either _ _ _ _ (truth_is_meaning f bound c v sure.1 (left number name bound f g c v agrees))
      (truth_is_meaning g bound c v sure.2 (right number name bound f g c v agrees))
  truth_is_meaning (implies at f g) bound c v sure agrees =
      same_implies _ _ _ _ (truth_is_meaning f bound c v sure.1.1 (left number name bound f g c v agrees))
      (truth_is_meaning g bound c v sure.2 (right number name bound f g c v agrees))
      (decided_of holds (formula_of f) sure.1.1 c)
  truth_is_meaning (some at x f) bound c v sure agrees =
      same_some holds x (formula_of f) f c v (λ k.
      truth_is_meaning f (bound ++ x.letter ∷ []) (instead x.set (set_for x k) c) (instead x.letter k v)
      (sure_alone holds x (formula_of f) sure.1)
      (within number name x (All-head (Known number name) x (variables f) agrees.0) k c v bound f agrees))
  truth_is_meaning (every at x f) bound c v sure agrees =
      let inner_sure = (sure_alone holds x (negation (formula_of f)) sure.1.1).1 in
      same_every holds x (formula_of f) f c v (λ k.
      truth_is_meaning f (bound ++ x.letter ∷ []) (instead x.set (set_for x k) c) (instead x.letter k v) inner_sure
      (within number name x (All-head (Known number name) x (variables f) agrees.0) k c v bound f agrees))
      (decided_of holds (formula_of f) inner_sure)
