use Rattle.tables.specs.Chart.{Charts, Onward}
use Rattle.tables.proofs.exploration.Search.explore_row.Given as goal

abbrev pub invariant-loop-k : goal.invariant-loop-k
invariant-loop-k g l = record { chart : Charts l.self l.at l.k; onward : Onward l.initial.self l.self }
