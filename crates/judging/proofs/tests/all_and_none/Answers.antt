use Rattle.judging.proofs.TestTables as table
use Rattle.judging.proofs.tests.all_and_none.Goals as goal

pub invariant_of-judged-2 : goal.invariant_of-judged-2
invariant_of-judged-2 g c = record { is_table = ∣ table.all ∣₁ }

pub invariant_of-judged-4 : goal.invariant_of-judged-4
invariant_of-judged-4 g c = record { is_table = ∣ table.none ∣₁ }
