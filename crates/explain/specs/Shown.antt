-- What the desk shows: a tray that was opened, and the word at the front of a buffer.
use Rattle.std.specs.Prelude.{◌≡◌, ℕ, ◌<◌, List, take, length, Some, None, Option}
use Rattle.std.specs.Borrow.{Bor}
use Rattle.tray.specs.declared.control.Control.{Control}
use Rattle.calls.specs.declared.running.Settings.{Settings}

-- the control record of a tray that was just opened
abbrev pub Opened : Settings → Control → Type 0
Opened s c = (c.sets ≡ s.sets) × (c.budget ≡ s.budget) × (c.depth ≡ s.depth) × (c.count ≡ 0)

-- the first so many columns of the buffer; none where there is no word, or the buffer has fewer
abbrev pub Shows : List ℕ → Option ℕ → Option (Bor (List ℕ)) → Type 0
Shows buffer None (Some word) = ⊥
Shows buffer None None = Unit {0}
Shows buffer (Some k) (Some word) = word.now ≡ take k buffer
Shows buffer (Some k) None = length buffer < k
