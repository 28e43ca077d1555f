-- The lines of names.
use Rattle.std.proofs.Common.{ℕ, zero, suc, ◌≤◌, length, arith, lit≤}
use Rattle.std.specs.Fmt.{digits}
use Rattle.saving.specs.TableText.{names_line}

-- how long they are
pub names_short : (k : ℕ) → k ≤ 4 → length (names_line k) ≤ 68
unfolding names_line digits
names_short zero few = lit≤ tt
names_short (suc zero) few = lit≤ tt
names_short (suc (suc zero)) few = lit≤ tt
names_short (suc (suc (suc zero))) few = lit≤ tt
names_short (suc (suc (suc (suc zero)))) few = lit≤ tt
names_short (suc (suc (suc (suc (suc k))))) few = absurd (omega arith)
