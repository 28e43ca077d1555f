-- Making the steps of a claim on a tray: the pile of formulas that they make above the tables that were there, and the first step
-- that is refused.
use Rattle.std.specs.Prelude.{◌≡◌, ℕ, ◌+◌, ◌⊎◌, cond, ◌==◌, List, [], ◌∷◌, ◌++◌, length}
use Rattle.words.specs.Formulas.{Formula, placed, single, negation, both, either, hidden}
use Rattle.words.specs.Residuals.{MoreThan}
use Rattle.tray.specs.Checks.{FirstFailed, AllPass}
use Rattle.tray.specs.Calls.{no_set, full, place_checks, join_checks, hide_checks, top_checks}
use Rattle.calls.specs.Owed.{Terms}
use Rattle.calls.specs.Pile.{SameMet}
use Rattle.grammar.specs.Steps.{Call, place, single as single-call, negate, both as both-call, either as either-call, hide}

-- the formula that a call makes of the pile, whose top stands first, and the pile behind it; no claim's steps find too short a pile
abbrev pub made : Call → List Formula → Formula
made (place p listed) pile = placed p listed
made (single-call i) pile = single i
made negate [] = single 0
made negate (f ∷ pile) = negation f
made both-call [] = single 0
made both-call (g ∷ []) = single 0
made both-call (g ∷ (f ∷ pile)) = both f g
made either-call [] = single 0
made either-call (g ∷ []) = single 0
made either-call (g ∷ (f ∷ pile)) = either f g
made (hide i) [] = single 0
made (hide i) (f ∷ pile) = hidden i f

abbrev pub rest_of : Call → List Formula → List Formula
rest_of (place p listed) pile = pile
rest_of (single-call i) pile = pile
rest_of negate [] = []
rest_of negate (f ∷ pile) = pile
rest_of both-call [] = []
rest_of both-call (g ∷ []) = []
rest_of both-call (g ∷ (f ∷ pile)) = pile
rest_of either-call [] = []
rest_of either-call (g ∷ []) = []
rest_of either-call (g ∷ (f ∷ pile)) = pile
rest_of (hide i) [] = []
rest_of (hide i) (f ∷ pile) = pile

abbrev pub puts : Call → List Formula → List Formula
puts call pile = made call pile ∷ rest_of call pile

-- the place of a refused call: that of its step, but 0 where memory is too short, which is no fault of the text
abbrev pub refused_place : ℕ → ℕ → ℕ
refused_place number at = cond (number == 4) 0 at

-- on a tray under these terms that holds `below` tables besides the pile's
module _ (t : Terms) (holds : ℕ → List ℕ → Type 0) (below : ℕ) where
  -- met is more than the budget
  abbrev pub too_many_met : Formula → List (ℕ × Type 0)
  too_many_met f = (23, MoreThan t.sets (SameMet t.sets t.automaton holds f) t.budget) ∷ []

  -- the checks of each call, in their order
  abbrev pub checks : List Formula → Call → List (ℕ × Type 0)
  checks pile (place p listed) =
      place_checks t.sets t.budget t.depth (below + length pile) t.lent.states t.lent.links t.size (t.automaton p).places p listed
      ++ too_many_met (placed p listed)
  checks pile (single-call i) = (no_set t.sets i ∷ full t.depth (below + length pile) ∷ []) ++ too_many_met (single i)
  checks pile negate = top_checks (below + length pile)
  checks pile both-call = join_checks t.budget (below + length pile) t.lent.pairs t.lent.links ++ too_many_met (made both-call pile)
  checks pile either-call = join_checks t.budget (below + length pile) t.lent.pairs t.lent.links ++ too_many_met (made either-call pile)
  checks pile (hide i) = hide_checks t.sets t.budget (below + length pile) t.lent.sets t.lent.links i ++ too_many_met (made (hide i) pile)

  -- each step passes its checks
  abbrev pub AllMade : List Formula → List (ℕ × Call) → Type 0
  AllMade pile [] = Unit {0}
  AllMade pile (step ∷ steps) = AllPass (checks pile step.1) × AllMade (puts step.1 pile) steps

  -- the first step that fails a check is refused with the number of the check, and this is the place of the refusal
  abbrev pub RefusedAt : List Formula → List (ℕ × Call) → ℕ → ℕ → Type 0
  RefusedAt pile [] number at = ⊥
  RefusedAt pile (step ∷ steps) number at =
      (FirstFailed (checks pile step.1) number × (at ≡ refused_place number step.0))
      ⊎ (AllPass (checks pile step.1) × RefusedAt (puts step.1 pile) steps number at)
