-- What the definitions of hiding come to, as statements. The function `laws_of_hiding` carries their proofs.
use Rattle.std.specs.Prelude.{ℕ, Bool, ◌↔◌, List}
use Rattle.words.specs.Words.{Columns}
use Rattle.words.specs.Residuals.{BySets}
use Rattle.words.specs.Hiding.{Hides, HidesBit}

-- where only the sets coded count, other bits i of a word and of what follows it are another set in place of set i
abbrev pub BitsAreSets : Type 0
BitsAreSets = (n i : ℕ) (L : List ℕ → Bool) → BySets n L → (w : List ℕ) → Columns n w → HidesBit n i L w ↔ Hides n i L w
