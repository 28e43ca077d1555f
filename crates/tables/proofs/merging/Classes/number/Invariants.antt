use Rattle.std.proofs.Common.{slice_index}
use Rattle.tables.specs.Numbered.{Numbered}
use Rattle.tables.proofs.merging.Classes.number.Given as goal

abbrev pub invariant-loop-s : goal.invariant-loop-s
invariant-loop-s l = Numbered (slice_index l.own-items) l.s (slice_index l.numbers) (slice_index l.fresh) l.count
