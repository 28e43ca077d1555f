-- What holds of each element of a list that is written out, as a tuple.
use Rattle.std.specs.Prelude.{List, [], ◌∷◌, All}
use Rattle.std.proofs.lemmas.List.Elements.{All-nil, All-cons, All-head, All-tail}

abbrev pub AllOf {ℓ} : {X : Type ℓ} → (X → Type 0) → List X → Type 0
AllOf P [] = Unit {0}
AllOf P (x ∷ xs) = P x × AllOf P xs

pub all_of : {X : Type 0} (P : X → Type 0) (xs : List X) → AllOf P xs → All P xs
all_of P [] all = All-nil P
all_of P (x ∷ xs) all = All-cons P x xs all.0 (all_of P xs all.1)

pub of_all : {X : Type 0} (P : X → Type 0) (xs : List X) → All P xs → AllOf P xs
of_all P [] all = tt
of_all P (x ∷ xs) all = (All-head P x xs all, of_all P xs (All-tail P x xs all))
