use Rattle.loading.proofs.Small.{zeros_small}
use Rattle.loading.proofs.loaded.Loaded.blank.Goals as goal

pub invariant_of-result-clause-sixteen_bits : goal.invariant_of-result-clause-sixteen_bits
invariant_of-result-clause-sixteen_bits c = zeros_small 8704
