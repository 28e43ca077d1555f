-- How classes of states become finer: contracts of the functions within merging. A reader of the statement can pass over this file.
use Rattle.std.specs.Prelude.{◌≡◌, ℕ, ◌<◌, Bool, true, false, slice_index}
use Rattle.words.specs.Described.{described}
use Rattle.words.proofs.Merging.{Stable, slack}
use Rattle.tables.specs.declared.merging.Classes.{Classes}

abbrev pub Settled : Classes → ℕ → Type 0
Settled k c = Stable (described k.rows) k.rows.states (slice_index k.class.now) c

-- what can still be split
abbrev pub left : Classes → ℕ
left k = slack k.rows.states (slice_index k.class.now)

-- What passes by the columns with P come to: nothing was split, and these columns are settled; or the classes are finer.
pub record Refines (old : Classes) (P : ℕ → Type 0) (new : Classes) (found : Bool) : Type 0 where
  pub rows : new.rows ≡ old.rows
  pub none : found ≡ false → (new.class.now ≡ old.class.now) × ((c : ℕ) → P c → Settled new c)
  pub some : found ≡ true → left new < left old
