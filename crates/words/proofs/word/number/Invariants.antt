use Rattle.words.specs.Words.{coded}
use Rattle.words.proofs.Backwards.{Read}
use Rattle.words.proofs.word.number.Given as goal

abbrev pub invariant-loop-column : goal.invariant-loop-column
invariant-loop-column l = Read (coded l.set) l.word l.column-iterator.iter.rest.now l.sum
