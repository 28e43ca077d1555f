-- What merging comes to: which explored states become one, and the rows of the merged states.
use Rattle.std.specs.Prelude.{◌≡◌, ℕ, ◌^◌, ◌<◌, ◌≤◌, cond, List}
use Rattle.words.specs.Rows.{written, next_of, mark_of}
use Rattle.words.specs.Residuals.{SameFrom}

-- The explored states below met, with these raw rows, were merged to `kept` states with the rows `out`.
pub record Merged (n met : ℕ) (raw : List ℕ) (kept : ℕ) (out : List ℕ) : Type 0 where
  -- the merged state of each explored one, and the lowest explored state of each merged one
  pub into : ℕ → ℕ
  pub low : ℕ → ℕ
  pub into_kept : (s : ℕ) → s < met → into s < kept
  pub low_met : (k : ℕ) → k < kept → low k < met
  pub low_into : (k : ℕ) → k < kept → into (low k) ≡ k
  pub lowest : (s : ℕ) → s < met → low (into s) ≤ s
  pub rising : (i j : ℕ) → i < j → j < kept → low i < low j
  -- two states become one exactly when no word tells them apart
  pub alike : (s t : ℕ) → s < met → t < met → into s ≡ into t → SameFrom n (written n met raw) s t
  pub apart : (s t : ℕ) → s < met → t < met → SameFrom n (written n met raw) s t → into s ≡ into t
  -- the rows of the merged states
  pub next : (k c : ℕ) → k < kept → c < 2 ^ n → next_of n out k c ≡ into ((written n met raw).step (low k) c)
  pub mark : (k : ℕ) → k < kept → mark_of n out k ≡ cond ((written n met raw).accepts (low k)) 1 0
