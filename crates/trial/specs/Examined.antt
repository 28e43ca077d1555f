-- What is found out about a word that a board recorded: sets 0 and 1 are its inputs, and set 2 is what it says they add up to.
use Rattle.std.specs.Prelude.{◌≡◌, ℕ, ◌+◌, ◌*◌, ◌^◌, ◌<◌, ◌≤◌, true, List, length, take, Ok, Err, Decides, Result, slice_index}
use Rattle.words.specs.Sets.{bit}
use Rattle.words.specs.Words.{Columns, coded}
use Rattle.words.specs.Relations.{Sum}
use Rattle.trial.specs.declared.finding.Finding.{Finding}
use Rattle.trial.specs.declared.finding.Unfit.{Unfit}
use Rattle.trial.specs.declared.finding.Unfit.TheVariants.{TooLong, NoColumn, NoMemory}

pub record Found (w : List ℕ) (f : Finding) : Type 0 where
  pub first : f.first ≡ coded 0 w
  pub second : f.second ≡ coded 1 w
  pub said : f.said ≡ coded 2 w
  pub truth : f.truth ≡ coded 0 w + coded 1 w
  -- whether the board is right
  pub right : Decides f.right (Sum (coded 0 w) (coded 1 w) (coded 2 w))
  -- whether the truth has room in the columns that were recorded
  pub room : Decides f.room (coded 0 w + coded 1 w < 2 ^ length w)
  -- with one column more, the truth is a sum as the book knows it
  pub whole : f.whole ≡ true

-- Each error comes only where its reason is there, so that a word of at most 63 columns in range is refused for memory alone.
abbrev pub Examined : List ℕ → Result Finding Unfit → Type 0
Examined w (Ok f) = Columns 3 w × (length w ≤ 63) × Found w f
Examined w (Err (TooLong n)) = (n ≡ length w) × (63 < n)
Examined w (Err (NoColumn i)) = (length w ≤ 63) × (i < length w) × (2 ^ 3 ≤ slice_index w i) × Columns 3 (take i w)
Examined w (Err NoMemory) = Columns 3 w × (length w ≤ 63)

-- v has n columns: the inputs of w, and s for what they add up to, as far as the columns go
pub record Corrected (w : List ℕ) (s n : ℕ) (v : List ℕ) : Type 0 where
  pub long : length v ≡ n
  pub column : (p : ℕ) → p < n → slice_index v p ≡ bit 0 (slice_index w p) + 2 * bit 1 (slice_index w p) + 4 * bit p s
