-- A building call makes one pile, and a pile has one top.
use Rattle.std.proofs.Common.{◌≡◌, List, [], ◌∷◌, sym, ap, ◌∙◌}
use Rattle.words.specs.Formulas.{Formula, placed, single, negation, both, either, hidden}
use Rattle.calls.specs.declared.call.Call.{Call}
use Rattle.calls.specs.declared.call.Call.TheVariants.{Place, Single, Negate, Both, Either, Hide, Drop, Save, Judge}
use Rattle.calls.specs.Pile.{Becomes}

-- another formula in place of the top, and in place of the two upper ones
abbrev changed : (Formula → Formula) → List Formula → List Formula
changed h [] = []
changed h (f ∷ rest) = h f ∷ rest

abbrev joined : (Formula → Formula → Formula) → List Formula → List Formula
joined h [] = []
joined h (g ∷ []) = []
joined h (g ∷ (f ∷ rest)) = h f g ∷ rest

-- the pile that a building call makes
abbrev made : List Formula → Call → List Formula
made pile (Place p listed) = placed p listed.now ∷ pile
made pile (Single i) = single i ∷ pile
made pile Negate = changed negation pile
made pile Both = joined both pile
made pile Either = joined either pile
made pile (Hide i) = changed (hidden i) pile
made pile Drop = []
made pile Save = []
made pile Judge = []

becomes_made : (pile : List Formula) (call : Call) (pile' : List Formula) → Becomes pile call pile' → pile' ≡ made pile call
becomes_made pile (Place p listed) pile' x = x
becomes_made pile (Single i) pile' x = x
becomes_made pile Negate pile' x = x.3 ∙ ap (changed negation) (sym x.2)
becomes_made pile Both pile' x = x.4 ∙ ap (joined both) (sym x.3)
becomes_made pile Either pile' x = x.4 ∙ ap (joined either) (sym x.3)
becomes_made pile (Hide i) pile' x = x.3 ∙ ap (changed (hidden i)) (sym x.2)
becomes_made pile Drop pile' x = absurd x
becomes_made pile Save pile' x = absurd x
becomes_made pile Judge pile' x = absurd x

pub one_pile : (pile : List Formula) (call : Call) (p q : List Formula) → Becomes pile call p → Becomes pile call q → p ≡ q
one_pile pile call p q x y = becomes_made pile call p x ∙ sym (becomes_made pile call q y)

-- ---- the top of a pile, and what lies below it
abbrev top : List Formula → Formula
top [] = single 0
top (f ∷ rest) = f

abbrev below : List Formula → List Formula
below [] = []
below (f ∷ rest) = rest

pub one_top : (pile : List Formula) (f g : Formula) (low high : List Formula) → pile ≡ f ∷ low → pile ≡ g ∷ high → (f ≡ g) × (low ≡ high)
one_top pile f g low high x y = (ap top (sym x ∙ y), ap below (sym x ∙ y))
