use Rattle.std.proofs.Common.{◌≡◌, ◌*◌}
use Rattle.hiding.specs.StateSets.{no_states, is_in}
use Rattle.hiding.specs.Collected.{followed, walked}
use Rattle.hiding.proofs.subsets.Readings.follow_all.Given as goal

abbrev pub invariant-loop-k : goal.invariant-loop-k
invariant-loop-k l = l.gathered ≡ walked (followed l.self) (is_in l.from) (64 * l.k) no_states
