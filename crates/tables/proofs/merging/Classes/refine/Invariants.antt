use Rattle.std.proofs.Common.{◌≡◌}
use Rattle.tables.specs.Refined.{left}
use Rattle.tables.proofs.merging.Classes.refine.Given as goal

abbrev pub invariant-loop : goal.invariant-loop
invariant-loop l = l.self.rows ≡ l.initial.self.rows

abbrev pub decreases-loop : goal.decreases-loop
decreases-loop l = left l.self
