use Rattle.words.specs.Formulas.{through}
use Rattle.words.proofs.Backwards.{Read}
use Rattle.tray.proofs.asked.read_through.Given as goal

abbrev pub invariant-loop-set : goal.invariant-loop-set
invariant-loop-set l = Read (λ sets. through sets l.column) l.listed l.set-iterator.iter.rest.now l.read
