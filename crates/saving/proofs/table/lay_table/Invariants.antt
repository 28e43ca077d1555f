use Rattle.std.specs.List.{flat_map}
use Rattle.words.specs.Described.{described}
use Rattle.saving.specs.Laying.{Lays}
use Rattle.saving.specs.TableText.{numbers, row_line}
use Rattle.saving.proofs.table.lay_table.Given as goal

-- the lines of the states so far are laid
abbrev pub invariant-loop-state : goal.invariant-loop-state
invariant-loop-state l = Lays (flat_map (row_line (described l.rows)) (numbers l.state)) l.initial.text l.text
