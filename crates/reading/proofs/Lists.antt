-- What holds of each element of a list that is made of two lists, and of what a filter keeps.
use Rattle.std.proofs.Common.{◌≡◌, Bool, true, false, cond, refl, List, [], ◌∷◌, ◌++◌}
use Rattle.std.specs.Prelude.{All, filter}
use Rattle.std.proofs.lemmas.List.Elements.{All-nil, All-cons, All-head, All-tail}

module _ {X : Type 0} (P : X → Type 0) where
  pub all_left : (xs ys : List X) → All P (xs ++ ys) → All P xs
  all_left [] ys all = All-nil P
  all_left (x ∷ xs) ys all =
      All-cons P x xs (All-head P x (xs ++ ys) all) (all_left xs ys (All-tail P x (xs ++ ys) all))

  pub all_right : (xs ys : List X) → All P (xs ++ ys) → All P ys
  all_right [] ys all = all
  all_right (x ∷ xs) ys all = all_right xs ys (All-tail P x (xs ++ ys) all)

  -- what holds of the elements that a filter keeps, and of those that it drops, holds of each
  pub all_parted : (test : X → Bool) (xs : List X) → All P (filter test xs) → All (λ x. test x ≡ false → P x) xs → All P xs
  all_parted test [] kept dropped = All-nil P
  all_parted test (x ∷ xs) kept dropped =
      go (test x) refl (all_parted test xs) (All-tail (λ x. test x ≡ false → P x) x xs dropped) (All-head (λ x. test x ≡ false → P x) x xs dropped) kept
    where
      go : (t : Bool) → test x ≡ t → (All P (filter test xs) → All (λ x. test x ≡ false → P x) xs → All P xs) → All (λ x. test x ≡ false → P x) xs
          → (test x ≡ false → P x) → All P (cond t (x ∷ filter test xs) (filter test xs)) → All P (x ∷ xs)
      go true e rest others here all = All-cons P x xs (All-head P x (filter test xs) all) (rest (All-tail P x (filter test xs) all) others)
      go false e rest others here all = All-cons P x xs (here e) (rest all others)

module _ {X : Type 0} (P Q R : X → Type 0) (joins : (x : X) → P x → Q x → R x) where
  pub all_joined : (xs : List X) → All P xs → All Q xs → All R xs
  all_joined xs all every k d h = joins _ (all k d h) (every k d h)
