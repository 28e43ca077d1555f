use Rattle.hiding.proofs.TestTables as table
use Rattle.hiding.proofs.tests.hide.Goals as goal

pub invariant_of-tabulate_hidden-2 : goal.invariant_of-tabulate_hidden-2
invariant_of-tabulate_hidden-2 c = record { is_table = ∣ table.sum ∣₁ }
