-- The pile of formulas that calls feed, the last one first, and what met counts for a formula.
use Rattle.std.specs.Prelude.{◌≡◌, ℕ, List, ◌∷◌}
use Rattle.words.specs.Automata.{Automaton}
use Rattle.words.specs.Formulas.{Formula, placed, single, negation, both, either, hidden}
use Rattle.words.specs.Hiding.{SameBut}
use Rattle.words.specs.Meanings.{SameAfter}
use Rattle.tray.specs.Asked.{SameBookState}
use Rattle.calls.specs.declared.call.Call.{Call}
use Rattle.calls.specs.declared.call.Call.TheVariants.{Place, Single, Negate, Both, Either, Hide, Drop, Save, Judge}

-- The pile after a building call: its formula lies on top, in place of those that it is made of. The other calls build nothing.
abbrev pub Becomes : List Formula → Call → List Formula → Type 0
Becomes pile (Place p listed) pile' = pile' ≡ placed p listed.now ∷ pile
Becomes pile (Single i) pile' = pile' ≡ single i ∷ pile
Becomes pile Negate pile' = (f : Formula) × (rest : List Formula) × (pile ≡ f ∷ rest) × (pile' ≡ negation f ∷ rest)
Becomes pile Both pile' = (f : Formula) × (g : Formula) × (rest : List Formula) × (pile ≡ g ∷ (f ∷ rest)) × (pile' ≡ both f g ∷ rest)
Becomes pile Either pile' = (f : Formula) × (g : Formula) × (rest : List Formula) × (pile ≡ g ∷ (f ∷ rest)) × (pile' ≡ either f g ∷ rest)
Becomes pile (Hide i) pile' = (f : Formula) × (rest : List Formula) × (pile ≡ f ∷ rest) × (pile' ≡ hidden i f ∷ rest)
Becomes pile Drop pile' = ⊥
Becomes pile Save pile' = ⊥
Becomes pile Judge pile' = ⊥

-- When two words count as one for the met of the call that makes a formula: they lead to the same state of the book, read
-- through the listed sets; they have the same residual of the formula; the same pair of residuals of its parts; the same
-- collection of residuals of its part, over the words that are equal to them but for bit i.
abbrev pub SameMet : ℕ → (ℕ → Automaton) → (ℕ → List ℕ → Type 0) → Formula → List ℕ → List ℕ → Type 0
SameMet n a holds (placed p listed) = SameBookState (a p) listed
SameMet n a holds (single i) = SameAfter n holds (single i)
SameMet n a holds (negation f) = SameAfter n holds (negation f)
SameMet n a holds (both f g) = λ u w. SameAfter n holds f u w × SameAfter n holds g u w
SameMet n a holds (either f g) = λ u w. SameAfter n holds f u w × SameAfter n holds g u w
SameMet n a holds (hidden i f) = SameBut n i (SameAfter n holds f)
