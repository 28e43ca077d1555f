-- The variables of a predicate, one by one.
use Rattle.std.proofs.Common.{◌≡◌, ℕ, ◌+◌, ◌<◌, Bool, not, List, [], ◌∷◌, ◌++◌, length, take, map, filter, get_or, slice_set, Option, sym, ap, ◌∙◌, subst}
use Rattle.std.proofs.lemmas.List.{append_assoc, take_more, take_more_set, map-append}
use Rattle.std.proofs.lemmas.List.Elements.{filter-append}
use Rattle.grammar.specs.declared.step.Spot.{Spot}
use Rattle.grammar.specs.Claims.{among}
use Rattle.grammar.specs.Written.{Notes}

module _ (xs : List Spot) (i : ℕ) (d : Spot) (low : i < length xs) where
  filter_more : (f : Spot → Bool) (spots : List Spot) → (spots ++ filter f (take i xs)) ++ filter f (get_or xs i d ∷ []) ≡ spots ++ filter f (take (i + 1) xs)
  filter_more f spots =
      append_assoc spots (filter f (take i xs)) (filter f (get_or xs i d ∷ []))
      ∙ ap (λ ys. spots ++ ys) (sym (ap (filter f) (take_more xs i d low) ∙ filter-append f (take i xs) (get_or xs i d ∷ [])))

  -- the variables that stand free among one more, where these letters are bound
  pub notes_more : (letters bound : List ℕ) (start noted noted' : List (Option ℕ)) → letters ≡ bound
      → ((spots : List Spot) → Notes start spots → Notes noted (spots ++ filter (λ x. not (among x.letter bound)) (take i xs)))
      → ((spots : List Spot) → Notes noted spots → Notes noted' (spots ++ filter (λ x. not (among x.letter letters)) (get_or xs i d ∷ [])))
      → (spots : List Spot) → Notes start spots → Notes noted' (spots ++ filter (λ x. not (among x.letter bound)) (take (i + 1) xs))
  notes_more letters bound start noted noted' same before now spots given =
      let unbound : Spot → Bool = λ x. not (among x.letter bound) in
      subst (Notes noted') (filter_more unbound spots)
      (subst (λ ls. Notes noted' ((spots ++ filter unbound (take i xs)) ++ filter (λ x. not (among x.letter ls)) (get_or xs i d ∷ []))) same
      (now (spots ++ filter unbound (take i xs)) (before spots given)))

  -- and their sets
  pub sets_more : (sets : List ℕ) → i < length sets → take i sets ≡ map (λ x. x.set) (take i xs)
      → take (i + 1) (slice_set sets i (get_or xs i d).set) ≡ map (λ x. x.set) (take (i + 1) xs)
  sets_more sets within before =
      take_more_set sets i (get_or xs i d).set within ∙ ap (λ ys. ys ++ (get_or xs i d).set ∷ []) before
      ∙ sym (ap (map (λ (x : Spot). x.set)) (take_more xs i d low) ∙ map-append (λ (x : Spot). x.set) (take i xs) (get_or xs i d ∷ []))
