use Rattle.judging.proofs.TestTables as table
use Rattle.judging.proofs.tests.short_buffers.Goals as goal

pub invariant_of-judge_table-3 : goal.invariant_of-judge_table-3
invariant_of-judge_table-3 g c = record { is_table = ∣ table.within ∣₁ }
