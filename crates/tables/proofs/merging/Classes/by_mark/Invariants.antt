use Rattle.std.proofs.Common.{◌≡◌, ℕ, ◌<◌, slice_index}
use Rattle.words.specs.Described.{described}
use Rattle.words.proofs.Merging.{Lowest}
use Rattle.tables.proofs.merging.Classes.by_mark.Given as goal

abbrev pub invariant-loop-s : goal.invariant-loop-s
invariant-loop-s l = (u : ℕ) → u < l.s → Lowest (λ t. (described l.rows).accepts t ≡ (described l.rows).accepts u) (slice_index l.class u)
