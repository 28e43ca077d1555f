-- Letters and sets go one to one: the set of each variable of a text is that of its letter, and the letter is that of its set.
use Rattle.std.proofs.Common.{◌≡◌, ℕ, ◌+◌, Bool, true, false, cond, ◌↔◌, List, [], ◌∷◌, ◌++◌, map, get_or, Option, Some, None, sym, refl, ap, ◌∙◌, subst, eqb, add-one}
use Rattle.std.specs.Prelude.{All}
use Rattle.std.specs.Char.{is_ascii_alphabetic}
use Rattle.std.proofs.lemmas.Bool.{eq-eqb, eqb-true, cond-true, cond-false}
use Rattle.std.proofs.lemmas.List.{append-nil, append_assoc}
use Rattle.std.proofs.lemmas.List.Elements.{All-nil, All-cons, All-head, All-tail, All-append}
use Rattle.words.specs.Automata.{Automaton}
use Rattle.tokens.specs.Items.{items_of, items_from}
use Rattle.tokens.specs.Marks.{mark_of}
use Rattle.tokens.specs.Numbering.{set_of, noted}
use Rattle.tokens.specs.Pieces.{pieces}
use Rattle.tokens.specs.Senses.{is_name, sense_of, sense_of_mark, sense_of_number, seen_after}
use Rattle.tokens.specs.declared.item.Item.{Item}
use Rattle.tokens.specs.declared.item.Sense.{Sense}
use Rattle.tokens.specs.declared.item.Sense.TheVariants.{Mark as mark, Predicate, Unknown, Variable, Wrong}
use Rattle.tokens.specs.declared.mark.Mark.{Mark}
use Rattle.tokens.specs.declared.mark.Mark.TheVariants.{Some as some-mark, Every}
use Rattle.grammar.specs.declared.step.Spot.{Spot}
use Rattle.grammar.specs.Claims.{Claim, atom, denial, and, or, implies, some, every, spelled, variable_item, mark_item}
use Rattle.reading.specs.MeaningLaws.{variables}

-- a variable whose set is that of its letter, and whose letter is that of its set
abbrev pub Known : (ℕ → ℕ) → (ℕ → ℕ) → Spot → Type 0
Known number name x = (x.set ≡ number x.letter) × (name x.set ≡ x.letter)

module _ (number name : ℕ → ℕ) (x y : Spot) (known_x : Known number name x) (known_y : Known number name y) where
  pub same_set : x.letter ≡ y.letter → x.set ≡ y.set
  same_set e = known_x.0 ∙ ap number e ∙ sym known_y.0

  pub same_letter : x.set ≡ y.set → x.letter ≡ y.letter
  same_letter e = sym known_x.1 ∙ ap name e ∙ known_y.1

  pub one_to_one : (x.letter ≡ y.letter) ↔ (x.set ≡ y.set)
  one_to_one = (same_set, same_letter)

-- ---- the letters that have appeared

-- a letter that is noted takes its place, and further letters change no place
set_stays : (b : ℕ) (seen more : List ℕ) → set_of b (noted b seen ++ more) ≡ set_of b seen
set_stays b [] more = cond-true (eqb b b) 0 (set_of b more + 1) (eq-eqb b b refl)
set_stays b (y ∷ ys) more = go (set_stays b ys more) (eqb y b) refl
  where
    go : set_of b (noted b ys ++ more) ≡ set_of b ys → (t : Bool) → eqb y b ≡ t
        → set_of b (cond t (y ∷ ys) (y ∷ noted b ys) ++ more) ≡ cond t 0 (set_of b ys + 1)
    go rest true e = cond-true (eqb y b) 0 (set_of b (ys ++ more) + 1) e
    go rest false e = cond-false (eqb y b) 0 (set_of b (noted b ys ++ more) + 1) e ∙ ap (λ k. k + 1) rest

-- and it is the letter at that place
letter_stays : (b : ℕ) (seen more : List ℕ) → get_or (noted b seen ++ more) (set_of b seen) 0 ≡ b
letter_stays b [] more = refl
letter_stays b (y ∷ ys) more = go (letter_stays b ys more) (eqb y b) refl
  where
    go : get_or (noted b ys ++ more) (set_of b ys) 0 ≡ b → (t : Bool) → eqb y b ≡ t
        → get_or (cond t (y ∷ ys) (y ∷ noted b ys) ++ more) (cond t 0 (set_of b ys + 1)) 0 ≡ b
    go rest true e = eqb-true y b e
    go rest false e = ap (λ k. get_or (y ∷ (noted b ys ++ more)) k 0) (add-one (set_of b ys)) ∙ rest

-- letters are only added, at the end
noted_longer : (b : ℕ) (seen : List ℕ) → (more : List ℕ) × (noted b seen ≡ seen ++ more)
noted_longer b [] = (b ∷ [], refl)
noted_longer b (y ∷ ys) = go (noted_longer b ys) (eqb y b)
  where
    go : (more : List ℕ) × (noted b ys ≡ ys ++ more) → (t : Bool) → (more : List ℕ) × (cond t (y ∷ ys) (y ∷ noted b ys) ≡ y ∷ (ys ++ more))
    go rest true = ([], ap (λ s. y ∷ s) (sym (append-nil ys)))
    go rest false = (rest.0, ap (λ s. y ∷ s) rest.1)

seen_longer : (seen piece : List ℕ) → (more : List ℕ) × (seen_after seen piece ≡ seen ++ more)
seen_longer seen [] = ([], sym (append-nil seen))
seen_longer seen (b ∷ []) = go (is_ascii_alphabetic b)
  where
    go : (t : Bool) → (more : List ℕ) × (cond t (noted b seen) seen ≡ seen ++ more)
    go true = noted_longer b seen
    go false = ([], sym (append-nil seen))
seen_longer seen (b ∷ (c ∷ bs)) = ([], sym (append-nil seen))

-- the letters that have appeared behind all pieces
last : List ℕ → List (ℕ × List ℕ) → List ℕ
last seen [] = seen
last seen (piece ∷ rest) = last (seen_after seen piece.1) rest

last_longer : (seen : List ℕ) (rest : List (ℕ × List ℕ)) → (more : List ℕ) × (last seen rest ≡ seen ++ more)
unfolding last
last_longer seen [] = ([], sym (append-nil seen))
last_longer seen (piece ∷ rest) =
    let a = seen_longer seen piece.1 in
    let b = last_longer (seen_after seen piece.1) rest in
    (a.0 ++ b.0, b.1 ∙ ap (λ s. s ++ b.0) a.1 ∙ append_assoc seen a.0 b.0)

-- ---- items

-- what is said of an item's letter and set, if it is a variable
abbrev OfVariable : (ℕ → ℕ → Type 0) → Sense → Type 0
OfVariable Q (Variable letter set) = Q letter set
OfVariable Q (mark m) = Unit {0}
OfVariable Q (Predicate p places) = Unit {0}
OfVariable Q Unknown = Unit {0}
OfVariable Q Wrong = Unit {0}

of_mark : (Q : ℕ → ℕ → Type 0) (m : Option Mark) → OfVariable Q (sense_of_mark m)
of_mark Q (Some m) = tt
of_mark Q None = tt

of_number : (Q : ℕ → ℕ → Type 0) (a : ℕ → Automaton) (p : Option ℕ) → OfVariable Q (sense_of_number a p)
of_number Q a (Some p) = tt
of_number Q a None = tt

-- the place of a letter in an order of letters, and the letter at a place
abbrev Placed : List ℕ → ℕ → ℕ → Type 0
Placed order letter set = (set ≡ set_of letter order) × (get_or order set 0 ≡ letter)

-- a variable's set is the place of its letter among all letters of the text
module _ (numbered : List ℕ → Option ℕ) (a : ℕ → Automaton) where
  placed_piece : (seen more piece : List ℕ) → OfVariable (Placed (seen_after seen piece ++ more)) (sense_of numbered a seen piece)
  placed_piece seen more [] = tt
  placed_piece seen more (b ∷ []) = go (is_ascii_alphabetic b)
    where
      go : (t : Bool)
          → OfVariable (Placed (cond t (noted b seen) seen ++ more)) (cond t (Variable b (set_of b seen)) (sense_of_mark (mark_of b)))
      go true = (sym (set_stays b seen more), letter_stays b seen more)
      go false = of_mark (Placed (seen ++ more)) (mark_of b)
  placed_piece seen more (b ∷ (c ∷ bs)) = go (is_name (b ∷ (c ∷ bs)))
    where
      go : (t : Bool) → OfVariable (Placed (seen ++ more)) (cond t (sense_of_number a (numbered (b ∷ (c ∷ bs)))) Wrong)
      go true = of_number (Placed (seen ++ more)) a (numbered (b ∷ (c ∷ bs)))
      go false = tt

  placed_items : (seen : List ℕ) (rest : List (ℕ × List ℕ)) → All (λ item. OfVariable (Placed (last seen rest)) item.sense) (items_from numbered a seen rest)
  unfolding last
  placed_items seen [] = All-nil (λ (item : Item). OfVariable (Placed seen) item.sense)
  placed_items seen (piece ∷ rest) =
      let seen' : List ℕ = seen_after seen piece.1 in
      let order : List ℕ = last seen' rest in
      let longer = last_longer seen' rest in
      All-cons (λ (item : Item). OfVariable (Placed order) item.sense) _ _
      (subst (λ s. OfVariable (Placed s) (sense_of numbered a seen piece.1)) (sym longer.1) (placed_piece seen longer.0 piece.1))
      (placed_items seen' rest)

-- what is said of the variables among the items of a claim is said of the claim's variables
module _ (Q : ℕ → ℕ → Type 0) where
  abbrev Items : List Item → Type 0
  Items = All (λ item. OfVariable Q item.sense)

  abbrev Spots : List Spot → Type 0
  Spots = All (λ x. Q x.letter x.set)

  head : (item : Item) (rest : List Item) → Items (item ∷ rest) → OfVariable Q item.sense
  head = All-head (λ (item : Item). OfVariable Q item.sense)

  tail : (item : Item) (rest : List Item) → Items (item ∷ rest) → Items rest
  tail = All-tail (λ (item : Item). OfVariable Q item.sense)

  spots_of : (spots : List Spot) (rest : List Item) → Items (map variable_item spots ++ rest) → Spots spots × Items rest
  spots_of [] rest all = (All-nil (λ (x : Spot). Q x.letter x.set), all)
  spots_of (x ∷ xs) rest all =
      let more = spots_of xs rest (tail (variable_item x) (map variable_item xs ++ rest) all) in
      (All-cons (λ (x : Spot). Q x.letter x.set) x xs (head (variable_item x) (map variable_item xs ++ rest) all) more.0, more.1)

  -- two parts, one behind the other
  two : (xs ys : List Spot) (middle rest : List Item) → Spots xs × Items middle → (Items middle → Spots ys × Items rest) → Spots (xs ++ ys) × Items rest
  two xs ys middle rest left right =
      let more = right left.1 in
      (All-append (λ (x : Spot). Q x.letter x.set) xs ys left.0 more.0, more.1)

  -- a mark, a variable, and a part behind them
  bound : (begin : Item) (x : Spot) (xs : List Spot) (part rest : List Item) → (Items part → Spots xs × Items rest)
      → Items (begin ∷ (variable_item x ∷ part)) → Spots (x ∷ xs) × Items rest
  bound begin x xs part rest inner all =
      let here : Items (variable_item x ∷ part) = tail begin (variable_item x ∷ part) all in
      let more = inner (tail (variable_item x) part here) in
      (All-cons (λ (y : Spot). Q y.letter y.set) x xs (head (variable_item x) part here) more.0, more.1)

  variables_of : (f : Claim) (rest : List Item) → Items (spelled f rest) → Spots (variables f) × Items rest
  variables_of (atom at p spots) rest all = spots_of spots rest (tail _ _ all)
  variables_of (denial at f) rest all = variables_of f rest (tail _ _ all)
  variables_of (and at f g) rest all =
      two (variables f) (variables g) (spelled g rest) rest (variables_of f (spelled g rest) (tail _ _ all)) (variables_of g rest)
  variables_of (or at f g) rest all =
      two (variables f) (variables g) (spelled g rest) rest (variables_of f (spelled g rest) (tail _ _ all)) (variables_of g rest)
  variables_of (implies at f g) rest all =
      two (variables f) (variables g) (spelled g rest) rest (variables_of f (spelled g rest) (tail _ _ all)) (variables_of g rest)
  variables_of (some at x f) rest all =
      bound (mark_item at some-mark) x (variables f) (spelled f rest) rest (variables_of f rest) all
  variables_of (every at x f) rest all =
      bound (mark_item at Every) x (variables f) (spelled f rest) rest (variables_of f rest) all

-- the letters of a text in the order of their sets
pub letters_of : List ℕ → List ℕ
letters_of text = last [] (pieces 0 text)

-- each variable of a claim that a text spells: its set is the place of its letter, and its letter is the one at the place of its set
pub known : (numbered : List ℕ → Option ℕ) (a : ℕ → Automaton) (text : List ℕ) (f : Claim) → items_of numbered a text ≡ spelled f []
    → All (Known (λ letter. set_of letter (letters_of text)) (λ set. get_or (letters_of text) set 0)) (variables f)
unfolding letters_of
known numbered a text f spells =
    let order : List ℕ = last [] (pieces 0 text) in
    (variables_of (Placed order) f []
    (subst (Items (Placed order)) spells (placed_items numbered a [] (pieces 0 text)))).0

-- letters and sets go one to one
pub letters_and_sets : (numbered : List ℕ → Option ℕ) (a : ℕ → Automaton) (text : List ℕ) (f : Claim) → items_of numbered a text ≡ spelled f []
    → All (λ x. All (λ y. (x.letter ≡ y.letter) ↔ (x.set ≡ y.set)) (variables f)) (variables f)
letters_and_sets numbered a text f spells i d h j e l =
    let all = known numbered a text f spells in
    one_to_one (λ letter. set_of letter (letters_of text)) (λ set. get_or (letters_of text) set 0) (get_or (variables f) i d) (get_or (variables f) j e)
    (all i d h) (all j e l)
