-- Items spell at most one claim.
use Rattle.std.proofs.Common.{◌≡◌, ℕ, List, [], ◌∷◌, ◌++◌, map, length, get_or, drop, sym, refl, ap, ◌∙◌, arith}
use Rattle.tokens.specs.declared.item.Item.{Item}
use Rattle.tokens.specs.declared.item.Sense.{Sense}
use Rattle.tokens.specs.declared.item.Sense.TheVariants.{Mark as mark, Predicate, Unknown, Variable, Wrong}
use Rattle.tokens.specs.declared.mark.Mark.{Mark}
use Rattle.tokens.specs.declared.mark.Mark.TheVariants.{Not, Both, Either, Implies, Some as some-mark, Every}
use Rattle.grammar.specs.declared.step.Spot.{Spot}
use Rattle.grammar.specs.Claims.{Claim, atom, denial, and, or, implies, some, every, spelled, variable_item}

same_head : {X : Type 0} {x y : X} {xs ys : List X} → x ∷ xs ≡ y ∷ ys → x ≡ y
same_head {x = x} e = ap (λ l. get_or l 0 x) e

same_tail : {X : Type 0} {x y : X} {xs ys : List X} → x ∷ xs ≡ y ∷ ys → xs ≡ ys
same_tail e = ap (drop 1) e

same_place : {x y : Item} {xs ys : List Item} → x ∷ xs ≡ y ∷ ys → x.place ≡ y.place
same_place e = ap (λ (i : Item). i.place) (same_head e)

same_sense : {x y : Item} {xs ys : List Item} → x ∷ xs ≡ y ∷ ys → x.sense ≡ y.sense
same_sense e = ap (λ (i : Item). i.sense) (same_head e)

-- variables are known by their items
same_spot : (x y : Spot) → variable_item x ≡ variable_item y → x ≡ y
same_spot x y e =
    let place : x.place ≡ y.place = ap (λ (i : Item). i.place) e in
    let sense : Variable x.letter x.set ≡ Variable y.letter y.set = ap (λ (i : Item). i.sense) e in
    let letter : x.letter ≡ y.letter = cc sense in
    let set : x.set ≡ y.set = cc sense in
    λ i. record { place = place i; letter = letter i; set = set i }

same_spots : (xs ys : List Spot) (r s : List Item) → length xs ≡ length ys → map variable_item xs ++ r ≡ map variable_item ys ++ s → (xs ≡ ys) × (r ≡ s)
same_spots [] [] r s l e = (refl, e)
same_spots [] (y ∷ ys) r s l e = absurd (omega arith)
same_spots (x ∷ xs) [] r s l e = absurd (omega arith)
same_spots (x ∷ xs) (y ∷ ys) r s l e =
    let more = same_spots xs ys r s (omega arith) (same_tail e) in
    let here = same_spot x y (same_head e) in
    ((λ i. here i ∷ more.0 i), more.1)

-- a number for each kind of claim, by the item that it begins with
kind_of_mark : Mark → ℕ
kind_of_mark Not = 1
kind_of_mark Both = 2
kind_of_mark Either = 3
kind_of_mark Implies = 4
kind_of_mark some-mark = 5
kind_of_mark Every = 6

kind_of_sense : Sense → ℕ
kind_of_sense (Predicate p places) = 0
kind_of_sense (mark m) = kind_of_mark m
kind_of_sense (Variable letter set) = 7
kind_of_sense Unknown = 7
kind_of_sense Wrong = 7

kind : List Item → ℕ
kind [] = 7
kind (item ∷ items) = kind_of_sense item.sense

-- a claim and what follows it are known by the items
pub same_claim : (f g : Claim) (r s : List Item) → spelled f r ≡ spelled g s → (f ≡ g) × (r ≡ s)
unfolding kind kind_of_sense kind_of_mark
same_claim (atom at p spots) (atom at' p' spots') r s e =
    let sense : Predicate p (length spots) ≡ Predicate p' (length spots') = same_sense e in
    let number : p ≡ p' = cc sense in
    let list = same_spots spots spots' r s (cc sense) (same_tail e) in
    ((λ i. atom (same_place e i) (number i) (list.0 i)), list.1)
same_claim (atom at p spots) g r s e = let k : ◌≡◌ {A = ℕ} 0 (kind (spelled g s)) = ap kind e in absurd (omega arith)
same_claim (denial at f) (denial at' g) r s e =
    let part = same_claim f g r s (same_tail e) in
    ((λ i. denial (same_place e i) (part.0 i)), part.1)
same_claim (denial at f) g r s e = let k : ◌≡◌ {A = ℕ} 1 (kind (spelled g s)) = ap kind e in absurd (omega arith)
same_claim (and at f g) (and at' f' g') r s e =
    let left = same_claim f f' (spelled g r) (spelled g' s) (same_tail e) in
    let right = same_claim g g' r s left.1 in
    ((λ i. and (same_place e i) (left.0 i) (right.0 i)), right.1)
same_claim (and at f f') g r s e = let k : ◌≡◌ {A = ℕ} 2 (kind (spelled g s)) = ap kind e in absurd (omega arith)
same_claim (or at f g) (or at' f' g') r s e =
    let left = same_claim f f' (spelled g r) (spelled g' s) (same_tail e) in
    let right = same_claim g g' r s left.1 in
    ((λ i. or (same_place e i) (left.0 i) (right.0 i)), right.1)
same_claim (or at f f') g r s e = let k : ◌≡◌ {A = ℕ} 3 (kind (spelled g s)) = ap kind e in absurd (omega arith)
same_claim (implies at f g) (implies at' f' g') r s e =
    let left = same_claim f f' (spelled g r) (spelled g' s) (same_tail e) in
    let right = same_claim g g' r s left.1 in
    ((λ i. implies (same_place e i) (left.0 i) (right.0 i)), right.1)
same_claim (implies at f f') g r s e = let k : ◌≡◌ {A = ℕ} 4 (kind (spelled g s)) = ap kind e in absurd (omega arith)
same_claim (some at x f) (some at' y g) r s e =
    let here = same_spot x y (same_head (same_tail e)) in
    let part = same_claim f g r s (same_tail (same_tail e)) in
    ((λ i. some (same_place e i) (here i) (part.0 i)), part.1)
same_claim (some at x f) g r s e = let k : ◌≡◌ {A = ℕ} 5 (kind (spelled g s)) = ap kind e in absurd (omega arith)
same_claim (every at x f) (every at' y g) r s e =
    let here = same_spot x y (same_head (same_tail e)) in
    let part = same_claim f g r s (same_tail (same_tail e)) in
    ((λ i. every (same_place e i) (here i) (part.0 i)), part.1)
same_claim (every at x f) g r s e = let k : ◌≡◌ {A = ℕ} 6 (kind (spelled g s)) = ap kind e in absurd (omega arith)

pub one_claim : (items : List Item) (f g : Claim) → items ≡ spelled f [] → items ≡ spelled g [] → f ≡ g
one_claim items f g e e' = (same_claim f g [] [] (sym e ∙ e')).0
