use Rattle.std.proofs.Common.{List, ℕ, length}
use Rattle.loading.specs.Cutting.{Cuts}
use Rattle.loading.specs.Whole.{Takes}
use Rattle.loading.proofs.reading.take_rows.Given as goal

-- some lines are cut from the text, and the draft has taken them
abbrev pub invariant-loop-rest : goal.invariant-loop-rest
invariant-loop-rest l = (lines : List (List ℕ)) × Cuts l.initial.rest lines l.rest × Takes l.initial.draft l.initial.memory lines l.draft l.memory

abbrev pub decreases-loop-rest : goal.decreases-loop-rest
decreases-loop-rest l = length l.rest
