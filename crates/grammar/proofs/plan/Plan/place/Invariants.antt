use Rattle.std.proofs.Common.{◌≡◌, ◌++◌, not, List, length, map, take, filter}
use Rattle.grammar.specs.declared.step.Spot.{Spot}
use Rattle.grammar.specs.Claims.{among}
use Rattle.grammar.specs.Written.{Notes}
use Rattle.grammar.proofs.plan.Plan.place.Given as goal

abbrev pub invariant-loop-i : goal.invariant-loop-i
invariant-loop-i l = record {
  four : length l.sets ≡ 4;
  used : l.self.used ≡ l.initial.self.used;
  steps : l.self.steps ≡ l.initial.self.steps;
  bound : l.self.bound ≡ l.initial.self.bound;
  notes : (spots : List Spot) → Notes l.initial.self.free spots
      → Notes l.self.free (spots ++ filter (λ x. not (among x.letter (take l.depth l.initial.self.bound))) (take l.i l.spots));
  sets : take l.i l.sets ≡ map (λ x. x.set) (take l.i l.spots);
}
