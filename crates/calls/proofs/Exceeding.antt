-- Met of a call is more than the budget, in the sameness of the tray and in that of the formula that the call makes.
use Rattle.std.proofs.Common.{ℕ, List, ◌∷◌, refl, subst}
use Rattle.words.specs.Automata.{Automaton}
use Rattle.words.specs.Formulas.{Formula}
use Rattle.words.specs.Residuals.{MoreThan}
use Rattle.words.specs.Words.{Columns}
use Rattle.words.proofs.Pairing.{more_same}
use Rattle.calls.specs.declared.call.Call.{Call}
use Rattle.calls.specs.Pile.{Becomes, SameMet}
use Rattle.calls.proofs.OnePile.{one_pile, one_top}

module _ (n : ℕ) (a : ℕ → Automaton) (holds : ℕ → List ℕ → Type 0) (pile : List Formula) (call : Call) (f : Formula) (rest : List Formula)
    (becomes : Becomes pile call (f ∷ rest)) (budget : ℕ) (Same : List ℕ → List ℕ → Type 0)
  where
    pub over_to : ((u w : List ℕ) → Columns n u → Columns n w → SameMet n a holds f u w → Same u w) → MoreThan n Same budget
        → (g : Formula) × (others : List Formula) × Becomes pile call (g ∷ others) × MoreThan n (SameMet n a holds g) budget
    over_to from more = (f, rest, becomes, more_same n Same (SameMet n a holds f) budget from more)

    pub over_from : ((u w : List ℕ) → Columns n u → Columns n w → Same u w → SameMet n a holds f u w)
        → (g : Formula) × (others : List Formula) × Becomes pile call (g ∷ others) × MoreThan n (SameMet n a holds g) budget → MoreThan n Same budget
    over_from to x =
        let is = one_top (x.0 ∷ x.1) x.0 f x.1 rest refl (one_pile pile call (x.0 ∷ x.1) (f ∷ rest) x.2 becomes) in
        more_same n (SameMet n a holds f) Same budget to (subst (λ g. MoreThan n (SameMet n a holds g) budget) is.0 x.3)
