use Rattle.judging.proofs.TestTables as table
use Rattle.judging.proofs.tests.within.Goals as goal

pub invariant_of-judged-2 : goal.invariant_of-judged-2
invariant_of-judged-2 g c = record { is_table = ∣ table.within ∣₁ }
