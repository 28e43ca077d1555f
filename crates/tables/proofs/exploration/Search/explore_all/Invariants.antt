use Rattle.std.proofs.Common.{◌≤◌}
use Rattle.tables.specs.Chart.{Charts, Onward}
use Rattle.tables.proofs.exploration.Search.explore_all.Given as goal

-- the rows before `at` are whole
abbrev pub invariant-loop-at : goal.invariant-loop-at
invariant-loop-at g l =
    record { chart : Charts l.self l.at 0; few : l.at ≤ l.self.met; onward : Onward l.initial.self l.self }
