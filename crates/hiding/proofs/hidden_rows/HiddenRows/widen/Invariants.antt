use Rattle.hiding.specs.Closings.{Widens}
use Rattle.hiding.proofs.hidden_rows.HiddenRows.widen.Given as goal

abbrev pub invariant-loop-state : goal.invariant-loop-state
invariant-loop-state l = Widens l.self l.initial.set l.state l.set l.widened
