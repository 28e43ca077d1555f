use Rattle.std.proofs.Common.{map, decimal, take}
use Rattle.saving.specs.Laying.{Lays}
use Rattle.saving.specs.TableText.{spaced}
use Rattle.saving.proofs.line.lay_line.Given as goal

-- the numbers so far are laid, one space apart
abbrev pub invariant-loop-k : goal.invariant-loop-k
invariant-loop-k l = Lays (spaced (map decimal (take l.k l.values))) l.initial.text l.text
