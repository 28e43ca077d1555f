use Rattle.std.proofs.Common.{slice_index, ℕ, ◌<◌, ◌≡◌}
use Rattle.words.specs.Described.{described}
use Rattle.tables.proofs.merging.write_row.Given as goal

abbrev pub invariant-loop-column : goal.invariant-loop-column
invariant-loop-column l = (c : ℕ) → c < l.column → slice_index l.next-items c ≡ slice_index l.numbers ((described l.rows).step l.low c)
