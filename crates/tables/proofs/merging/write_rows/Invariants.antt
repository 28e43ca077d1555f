use Rattle.std.proofs.Common.{slice_index}
use Rattle.words.specs.Described.{described}
use Rattle.tables.specs.Numbered.{Wrote}
use Rattle.tables.proofs.merging.write_rows.Given as goal

abbrev pub invariant-loop-j : goal.invariant-loop-j
invariant-loop-j l = Wrote (described l.rows) l.rows.places (slice_index l.numbers) (slice_index l.leaders) l.j l.initial.out l.out
