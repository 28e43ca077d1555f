use Rattle.std.proofs.Common.{◌++◌, ◌*◌, codes, decimal, take}
use Rattle.std.specs.List.{flat_map}
use Rattle.deciding.specs.Printed.{Puts}
use Rattle.deciding.proofs.printing.put_columns.Given as goal

abbrev pub invariant-loop-column : goal.invariant-loop-column
invariant-loop-column l =
    Puts (4 * l.column-index) (flat_map (λ d. codes "," ++ decimal d) (take l.column-index l.rest)) l.initial.lines.items l.lines.items
