use Rattle.words.specs.Described.{described}
use Rattle.saving.specs.Laying.{Lays, nexts_of}
use Rattle.saving.proofs.table.lay_nexts.Given as goal

-- the next states by the columns so far are laid
abbrev pub invariant-loop-column : goal.invariant-loop-column
invariant-loop-column l = Lays (nexts_of (described l.rows) l.state l.column) l.initial.text l.text
