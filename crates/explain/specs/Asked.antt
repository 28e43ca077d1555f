-- The call that a planned step asks for.
use Rattle.std.specs.Prelude.{◌≡◌, ◌≤◌, ℕ, List, take}
use Rattle.grammar.specs.declared.step.Build.{Build}
use Rattle.grammar.specs.declared.step.Build.TheVariants.{Place as place, Single as single, Negate as negate, Both as both, Either as either, Hide as hide}
use Rattle.calls.specs.declared.call.Call.{Call}
use Rattle.calls.specs.declared.call.Call.TheVariants.{Place, Single, Negate, Both, Either, Hide}

-- a call that places this predicate on these sets
abbrev pub PlacesOn : ℕ → List ℕ → Call → Type 0
PlacesOn p sets (Place q listed) = (q ≡ p) × (listed.now ≡ sets)
PlacesOn p sets _ = ⊥

-- a predicate has four places at most
abbrev pub few_places : Build → Type 0
few_places (place p sets places) = places ≤ 4
few_places _ = Unit {0}

-- a step asks for this call
abbrev pub Asks : Build → Call → Type 0
Asks (place p sets places) call = PlacesOn p (take places sets) call
Asks (single i) call = call ≡ Single i
Asks negate call = call ≡ Negate
Asks both call = call ≡ Both
Asks either call = call ≡ Either
Asks (hide i) call = call ≡ Hide i
