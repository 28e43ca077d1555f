use Rattle.saving.specs.Laying.{Lays, names_of}
use Rattle.saving.proofs.table.lay_names.Given as goal

-- the names of the columns so far are laid
abbrev pub invariant-loop-column : goal.invariant-loop-column
invariant-loop-column l = Lays (names_of l.column) l.initial.text l.text
