use Rattle.words.proofs.Hiding.{bits_are_sets}
use Rattle.words.proofs.laws.laws_of_hiding.Goals as goal

pub returns : goal.returns
returns c = bits_are_sets
