use Rattle.std.proofs.Common.{◌<◌}
use Rattle.tables.specs.Refined.{Refines}
use Rattle.tables.proofs.merging.Classes.round.Given as goal

abbrev pub invariant-loop-column : goal.invariant-loop-column
invariant-loop-column l = Refines l.initial.self (λ c. c < l.column) l.self l.refined
