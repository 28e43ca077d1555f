use Rattle.hiding.specs.Closings.{Marked}
use Rattle.hiding.proofs.hidden_rows.HiddenRows.accepting.Given as goal

abbrev pub invariant-loop-state : goal.invariant-loop-state
invariant-loop-state l = Marked l.self l.state l.marked
