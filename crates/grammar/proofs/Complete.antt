-- Items that are not at fault spell what is due.
use Rattle.std.proofs.Common.{◌≡◌, ℕ, zero, suc, ◌<◌, ◌≤◌, Bool, true, false, cond, List, [], ◌∷◌, ◌++◌, map, length, replicate, Option, Some, None, sym, refl, ap, ◌∙◌, ltb}
use Rattle.std.specs.Prelude.{All}
use Rattle.std.proofs.lemmas.Bool.{ltb-false, ltb-true}
use Rattle.std.proofs.lemmas.List.Elements.{All-nil, All-cons}
use Rattle.tokens.specs.declared.item.Item.{Item}
use Rattle.tokens.specs.declared.item.Sense.{Sense}
use Rattle.tokens.specs.declared.item.Sense.TheVariants.{Mark as mark, Predicate, Unknown, Variable, Wrong}
use Rattle.tokens.specs.declared.mark.Mark.{Mark}
use Rattle.tokens.specs.declared.mark.Mark.TheVariants.{Not, Both, Either, Implies, Some as some-mark, Every}
use Rattle.grammar.specs.declared.flaw.Flaw.{Flaw}
use Rattle.grammar.specs.declared.flaw.Flaw.TheVariants.{TooDeep, UnknownName, TooManyVariables}
use Rattle.grammar.specs.declared.step.Spot.{Spot}
use Rattle.grammar.specs.Claims.{Claim, atom, denial, and, or, implies, some, every, spelled, Fits, mark_item, name_item, variable_item}
use Rattle.grammar.specs.Faults.{Due, formula, variable, as_formula, as_variable, as_more, flaw_at, parts, opened, due_after, or_later, fault}

nothing_wrong : (o : Option Flaw) (place : ℕ) (later : Option (Flaw × ℕ)) → or_later o place later ≡ None → (o ≡ None) × (later ≡ None)
nothing_wrong (Some flaw) place later e = absurd cc
nothing_wrong None place later e = (refl, e)

shallow_from : (k : ℕ) (o : Option Flaw) → cond (ltb 32 k) (Some TooDeep) o ≡ None → (k ≤ 32) × (o ≡ None)
shallow_from k o e = go (ltb 32 k) refl e
  where
    go : (t : Bool) → ltb 32 k ≡ t → cond t (Some TooDeep) o ≡ None → (k ≤ 32) × (o ≡ None)
    go true deep none = absurd cc
    go false deep none = (ltb-false 32 k deep, none)

none_more : (s : Sense) → as_more s ≡ None → ⊥
none_more (mark m) e = cc
none_more s e = cc

module _ (n : ℕ) where
  -- the items spell what is due, with nothing behind it
  abbrev pub Spells : List Due → List Item → Type 0
  Spells [] items = items ≡ []
  Spells (formula k ∷ dues) items = (f : Claim) × (rest : List Item) × (items ≡ spelled f rest) × Fits n k f × Spells dues rest
  Spells (variable ∷ dues) items = (x : Spot) × (rest : List Item) × (items ≡ variable_item x ∷ rest) × (x.set < n) × Spells dues rest

  spells_spots : (places : ℕ) (dues : List Due) (items : List Item) → Spells (replicate places variable ++ dues) items
      → (spots : List Spot) × (rest : List Item) × (items ≡ map variable_item spots ++ rest) × (length spots ≡ places) × All (λ x. x.set < n) spots
      × Spells dues rest
  spells_spots zero dues items spells = ([], items, refl, refl, All-nil (λ (x : Spot). x.set < n), spells)
  spells_spots (suc k) dues items spells =
      let x : Spot = spells.0 in
      let more = spells_spots k dues spells.1 spells.4 in (
        x ∷ more.0,
        more.1,
        spells.2 ∙ ap (λ l. variable_item x ∷ l) more.2,
        ap suc more.3,
        All-cons (λ y. y.set < n) x more.0 spells.3 more.4,
        more.5,
      )

  -- an item begins a formula whose parts are spelled behind it
  spells_mark : (k at : ℕ) (m : Mark) (dues : List Due) (items : List Item) → k ≤ 32 → Spells (parts k m ++ dues) items
      → Spells (formula k ∷ dues) (mark_item at m ∷ items)
  spells_mark k at Not dues items h (f, behind, is, fits, more) =
      (denial at f, behind, ap (λ l. mark_item at Not ∷ l) is, (h, fits), more)
  spells_mark k at Both dues items h (f, middle, is, fits, (g, behind, is', fits', more)) =
      (and at f g, behind, ap (λ l. mark_item at Both ∷ l) (is ∙ ap (spelled f) is'), (h, fits, fits'), more)
  spells_mark k at Either dues items h (f, middle, is, fits, (g, behind, is', fits', more)) =
      (or at f g, behind, ap (λ l. mark_item at Either ∷ l) (is ∙ ap (spelled f) is'), (h, fits, fits'), more)
  spells_mark k at Implies dues items h (f, middle, is, fits, (g, behind, is', fits', more)) =
      (implies at f g, behind, ap (λ l. mark_item at Implies ∷ l) (is ∙ ap (spelled f) is'), (h, fits, fits'), more)
  spells_mark k at some-mark dues items h (x, middle, is, fits, (f, behind, is', fits', more)) =
      (some at x f, behind, ap (λ l. mark_item at some-mark ∷ l) (is ∙ ap (λ l. variable_item x ∷ l) is'), (h, fits, fits'), more)
  spells_mark k at Every dues items h (x, middle, is, fits, (f, behind, is', fits', more)) =
      (every at x f, behind, ap (λ l. mark_item at Every ∷ l) (is ∙ ap (λ l. variable_item x ∷ l) is'), (h, fits, fits'), more)

  spells_formula : (k at : ℕ) (s : Sense) (dues : List Due) (items : List Item) → as_formula k s ≡ None → Spells (opened k s ++ dues) items
      → Spells (formula k ∷ dues) (record { place = at; sense = s } ∷ items)
  spells_formula k at Wrong dues items right spells = absurd cc
  spells_formula k at (Variable letter set) dues items right spells = absurd cc
  spells_formula k at (mark m) dues items right spells = spells_mark k at m dues items (shallow_from k None right).0 spells
  spells_formula k at (Predicate p places) dues items right spells =
      let listed = spells_spots places dues items spells in
      let spots : List Spot = listed.0 in (
        atom at p spots,
        listed.1,
        ap (λ q. name_item at p q ∷ items) (sym listed.3) ∙ ap (λ l. name_item at p (length spots) ∷ l) listed.2,
        ((shallow_from k None right).0, listed.4),
        listed.5,
      )
  spells_formula k at Unknown dues items right spells = absurd (unknown (shallow_from k (Some UnknownName) right).1)
    where
      unknown : Some UnknownName ≡ None → ⊥
      unknown e = cc

  spells_variable : (at : ℕ) (s : Sense) (dues : List Due) (items : List Item) → as_variable n s ≡ None → Spells dues items
      → Spells (variable ∷ dues) (record { place = at; sense = s } ∷ items)
  spells_variable at (Variable letter set) dues items right spells =
      (record { place = at; letter = letter; set = set }, items, refl, below (ltb set n) refl right, spells)
    where
      below : (t : Bool) → ltb set n ≡ t → cond t None (Some TooManyVariables) ≡ None → set < n
      below true e none = ltb-true set n e
      below false e none = absurd cc
  spells_variable at s dues items right spells = absurd cc

  -- an item spells what is due first, where what is due behind it is spelled behind it
  spells_item : (due : Due) (dues : List Due) (item : Item) (items : List Item) → flaw_at n (due ∷ dues) item.sense ≡ None
      → Spells (due_after (due ∷ dues) item.sense) items → Spells (due ∷ dues) (item ∷ items)
  spells_item (formula k) dues item items right spells = spells_formula k item.place item.sense dues items right spells
  spells_item variable dues item items right spells = spells_variable item.place item.sense dues items right spells

module _ (n long : ℕ) where
  spells_due : (dues : List Due) (items : List Item) → fault n long dues items ≡ None → Spells n dues items
  spells_due [] [] none = refl
  spells_due (due ∷ dues) [] none = absurd cc
  spells_due [] (item ∷ items) none =
      absurd (none_more item.sense (nothing_wrong (as_more item.sense) item.place (fault n long [] items) none).0)
  spells_due (due ∷ dues) (item ∷ items) none =
      let later = due_after (due ∷ dues) item.sense in
      let right = nothing_wrong (flaw_at n (due ∷ dues) item.sense) item.place (fault n long later items) none in
      spells_item n due dues item items right.0 (spells_due later items right.1)

  pub spells_claim : (items : List Item) → fault n long (formula 0 ∷ []) items ≡ None → (f : Claim) × (items ≡ spelled f []) × Fits n 0 f
  spells_claim items none = after (spells_due (formula 0 ∷ []) items none)
    where
      after : Spells n (formula 0 ∷ []) items → (f : Claim) × (items ≡ spelled f []) × Fits n 0 f
      after (f, behind, is, fits, end) = (f, is ∙ ap (spelled f) end, fits)
