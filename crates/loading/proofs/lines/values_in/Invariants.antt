use Rattle.std.proofs.Common.{◌≡◌, ◌≤◌, take}
use Rattle.loading.proofs.Values.{gathered}
use Rattle.loading.proofs.lines.values_in.Given as goal

abbrev pub invariant-loop-byte : goal.invariant-loop-byte
invariant-loop-byte l = record {
  few : l.count ≤ l.byte-index;
  read : gathered (l.initial.values, 0, 0) (take l.byte-index l.line) ≡ (l.values, l.count, l.value);
}
