-- What is known of the items of a text: no predicate has more than four places, and there are no more items than bytes.
use Rattle.std.proofs.Common.{◌≡◌, ℕ, zero, suc, ◌+◌, ◌≤◌, Bool, true, false, cond, ◌&&◌, List, [], ◌∷◌, length, drop, get_or, Some, None, Option, refl, ap, subst, ⊎_elim, arith}
use Rattle.std.proofs.lemmas.Bool.{cases_lt}
use Rattle.std.specs.Char.{is_ascii_alphabetic}
use Rattle.words.specs.Automata.{Automaton}
use Rattle.books.specs.Rule.{SetRule}
use Rattle.tokens.specs.Items.{items_from, items_of}
use Rattle.tokens.specs.Marks.{mark_of}
use Rattle.tokens.specs.Numbering.{set_of}
use Rattle.tokens.specs.Pieces.{blank, on_letter, longer, pieces}
use Rattle.tokens.specs.Senses.{is_name, sense_of_mark, sense_of_number, sense_of, seen_after}
use Rattle.tokens.specs.declared.item.Item.{Item}
use Rattle.tokens.specs.declared.item.Sense.{Sense}
use Rattle.tokens.specs.declared.item.Sense.TheVariants.{Mark, Predicate, Unknown, Variable, Wrong}
use Rattle.tokens.specs.declared.mark.Mark.{Mark as MarkKind}
use Rattle.grammar.specs.Sources.{FewPlaces}

-- ---- places

abbrev few_places : Sense → Type 0
few_places (Predicate p places) = places ≤ 4
few_places (Mark m) = Unit {0}
few_places Unknown = Unit {0}
few_places (Variable l i) = Unit {0}
few_places Wrong = Unit {0}

pub at_most_four : (size : ℕ) (a : ℕ → Automaton) (holds : ℕ → List ℕ → Type 0) → SetRule size a holds → (p : ℕ) → (a p).places ≤ 4
at_most_four size a holds rule p =
    ⊎_elim (λ low. (rule.recognizes p low).places.1) (λ high. omega (arith, (rule.absent p high).places)) (cases_lt p size)

module _ (numbered : List ℕ → Option ℕ) (a : ℕ → Automaton) (four : (p : ℕ) → (a p).places ≤ 4) where
  number_few : (r : Option ℕ) → few_places (sense_of_number a r)
  number_few (Some p) = four p
  number_few None = tt

  mark_few : (r : Option MarkKind) → few_places (sense_of_mark r)
  mark_few (Some m) = tt
  mark_few None = tt

  either_few : (b : Bool) (s t : Sense) → few_places s → few_places t → few_places (cond b s t)
  either_few true s t x y = x
  either_few false s t x y = y

  sense_few : (seen bytes : List ℕ) → few_places (sense_of numbered a seen bytes)
  sense_few seen [] = tt
  sense_few seen (b ∷ []) = either_few (is_ascii_alphabetic b) (Variable b (set_of b seen)) (sense_of_mark (mark_of b)) tt (mark_few (mark_of b))
  sense_few seen (b ∷ (c ∷ bs)) =
      either_few (is_name (b ∷ (c ∷ bs))) (sense_of_number a (numbered (b ∷ (c ∷ bs)))) Wrong (number_few (numbered (b ∷ (c ∷ bs)))) tt

  nothing : Item
  nothing = record { place = 0; sense = Wrong }

  few_from : (seen : List ℕ) (ps : List (ℕ × List ℕ)) (k p places at : ℕ) (rest : List Item)
      → drop k (items_from numbered a seen ps) ≡ record { place = at; sense = Predicate p places } ∷ rest → places ≤ 4
  few_from seen [] zero p places at rest e = absurd (omega (arith, ap length e))
  few_from seen [] (suc k) p places at rest e = absurd (omega (arith, ap length e))
  few_from seen (piece ∷ ps) zero p places at rest e = subst few_places (ap (λ items. (get_or items 0 nothing).sense) e) (sense_few seen piece.1)
  few_from seen (piece ∷ ps) (suc k) p places at rest e = few_from (seen_after seen piece.1) ps k p places at rest e

  pub few_items : (text : List ℕ) → FewPlaces (items_of numbered a text)
  few_items text k p places at rest e = few_from [] (pieces 0 text) k p places at rest e

  -- ---- how many

  longer_length : (at b : ℕ) (ps : List (ℕ × List ℕ)) (n : ℕ) → length ps ≤ n → length (longer at b ps) ≤ n + 1
  longer_length at b [] n h = omega arith
  longer_length at b (p ∷ ps) n h = omega (arith, h)

  either_length : (c : Bool) (xs ys : List (ℕ × List ℕ)) (n : ℕ) → length xs ≤ n → length ys ≤ n → length (cond c xs ys) ≤ n
  either_length true xs ys n x y = x
  either_length false xs ys n x y = y

  pieces_length : (at : ℕ) (bytes : List ℕ) → length (pieces at bytes) ≤ length bytes
  pieces_length at [] = omega arith
  pieces_length at (b ∷ bs) =
      let n : ℕ = length bs + 1 in
      let rest : List (ℕ × List ℕ) = pieces (at + 1) bs in
      let few : length rest ≤ length bs = pieces_length (at + 1) bs in
      let all : length (pieces at (b ∷ bs)) ≤ n =
      either_length (blank b) rest (cond (is_ascii_alphabetic b && on_letter bs) (longer at b rest) ((at, b ∷ []) ∷ rest)) n (omega (arith, few))
      (either_length (is_ascii_alphabetic b && on_letter bs) (longer at b rest) ((at, b ∷ []) ∷ rest) n
      (longer_length at b rest (length bs) few) (omega (arith, few))) in
      omega (arith, all)

  from_length : (seen : List ℕ) (ps : List (ℕ × List ℕ)) → length (items_from numbered a seen ps) ≡ length ps
  from_length seen [] = refl
  from_length seen (p ∷ ps) = ap suc (from_length (seen_after seen p.1) ps)

  pub items_length : (text : List ℕ) → length (items_of numbered a text) ≤ length text
  items_length text = omega (arith, from_length [] (pieces 0 text), pieces_length 0 text)
