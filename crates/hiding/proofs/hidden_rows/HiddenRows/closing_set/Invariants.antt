use Rattle.hiding.specs.StateSets.{missing}
use Rattle.hiding.specs.Closings.{Sound}
use Rattle.hiding.proofs.hidden_rows.HiddenRows.closing_set.Given as goal

abbrev pub invariant-rounds : goal.invariant-rounds
invariant-rounds l = Sound l.self l.closing

-- the states that are still missing
abbrev pub decreases-rounds : goal.decreases-rounds
decreases-rounds l = missing l.self.rows.states l.closing
