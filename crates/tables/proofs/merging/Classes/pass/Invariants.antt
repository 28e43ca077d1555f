use Rattle.std.proofs.Common.{◌≡◌, ℕ, ◌<◌, slice_index}
use Rattle.words.specs.Described.{described}
use Rattle.words.proofs.Merging.{Lowest, Alike}
use Rattle.tables.proofs.merging.Classes.pass.Given as goal

abbrev pub invariant-loop-s : goal.invariant-loop-s
invariant-loop-s l =
    (l.self.rows ≡ l.initial.self.rows) × (l.self.class.now ≡ l.initial.self.class.now)
    × ((u : ℕ) → u < l.s → Lowest (Alike (described l.initial.self.rows).step (slice_index l.initial.self.class.now) l.column u) (slice_index l.self.fresh.now u))
