-- Of a list of checks one number is the first that fails, and then not all pass.
use Rattle.std.proofs.Common.{◌≡◌, ℕ, ◌-◌, List, [], ◌∷◌, get_or, sym, refl, ap, ◌∙◌, inl, inr}
use Rattle.tray.specs.Checks.{FirstFailed, AllPass}
use Rattle.tray.specs.Refusals.{number_of}
use Rattle.tray.specs.declared.refusal.Refusal.{Refusal}
use Rattle.tray.specs.declared.refusal.Refusal.TheVariants.{WrongSets, WrongBudget, WrongDepth, NoMemory, NoPredicate, WrongPlaces, NoSet, NoBuffer, TooManySets, Full, TooFewTables, TooManyStates}

pub never_both : (checks : List (ℕ × Type 0)) (k : ℕ) → AllPass checks → FirstFailed checks k → ⊥
never_both [] k p f = f
never_both (x ∷ rest) k p (inl f) = p.0 f.1
never_both (x ∷ rest) k p (inr f) = never_both rest k p.1 f.1

pub one_failed : (checks : List (ℕ × Type 0)) (j k : ℕ) → FirstFailed checks j → FirstFailed checks k → j ≡ k
one_failed [] j k f g = absurd f
one_failed (x ∷ rest) j k (inl f) (inl g) = f.0 ∙ sym g.0
one_failed (x ∷ rest) j k (inl f) (inr g) = absurd (g.0 f.1)
one_failed (x ∷ rest) j k (inr f) (inl g) = absurd (f.0 g.1)
one_failed (x ∷ rest) j k (inr f) (inr g) = one_failed rest j k f.1 g.1

-- ---- a refusal from its number

numbered : ℕ → Refusal
numbered k =
    get_or (WrongSets ∷ WrongSets ∷ WrongBudget ∷ WrongDepth ∷ NoMemory ∷ NoPredicate ∷ WrongPlaces ∷ NoSet ∷ NoBuffer ∷ []) k
    (get_or (TooManySets ∷ Full ∷ TooFewTables ∷ TooManyStates ∷ []) (k - 20) WrongSets)

numbered_is : (r : Refusal) → numbered (number_of r) ≡ r
unfolding numbered
numbered_is WrongSets = refl
numbered_is WrongBudget = refl
numbered_is WrongDepth = refl
numbered_is NoMemory = refl
numbered_is NoPredicate = refl
numbered_is WrongPlaces = refl
numbered_is NoSet = refl
numbered_is NoBuffer = refl
numbered_is TooManySets = refl
numbered_is Full = refl
numbered_is TooFewTables = refl
numbered_is TooManyStates = refl

pub one_refusal : (checks : List (ℕ × Type 0)) (r s : Refusal) → FirstFailed checks (number_of r) → FirstFailed checks (number_of s) → r ≡ s
one_refusal checks r s f g = sym (numbered_is r) ∙ ap numbered (one_failed checks (number_of r) (number_of s) f g) ∙ numbered_is s
