use Rattle.grammar.proofs.Several.{Found}
use Rattle.grammar.proofs.source.Source.variables.Given as goal

abbrev pub invariant-loop-i : goal.invariant-loop-i
invariant-loop-i l = Found l.self l.at l.i l.spots
