-- The memory that is lent to one call.
use Rattle.std.specs.Prelude.{ℕ, ◌*◌}

-- so many records of each kind, and so many links
pub record Lent : Type 0 where
  pub states : ℕ
  pub pairs : ℕ
  pub sets : ℕ
  pub links : ℕ

-- that of work memory with so many records of each kind, and so many rows of eight links
abbrev pub lent_by : ℕ → ℕ → ℕ → ℕ → Lent
lent_by states pairs sets rows = record { states = states; pairs = pairs; sets = sets; links = 8 * rows }

-- that for so many states: a record of each kind, and eight links for each
abbrev pub lent_for : ℕ → Lent
lent_for states = lent_by states states states states
