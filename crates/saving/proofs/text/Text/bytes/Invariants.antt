use Rattle.std.proofs.Common.{take}
use Rattle.saving.specs.Laying.{Lays}
use Rattle.saving.proofs.text.Text.bytes.Given as goal

-- the bytes so far are laid
abbrev pub invariant-loop-byte : goal.invariant-loop-byte
invariant-loop-byte l = Lays (take l.byte-index l.bytes) l.initial.self l.self
