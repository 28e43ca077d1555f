-- What stays, over one change of a tray and another.
use Rattle.std.proofs.Common.{◌≡◌, ℕ, ◌*◌, List, refl, ◌∙◌, ap₂}
use Rattle.words.specs.Rows.{width}
use Rattle.tray.specs.Building.{SameSettings, SameTables}
use Rattle.tray.specs.View.{slot}
use Rattle.tray.specs.declared.control.Control.{Control}
use Rattle.reading.specs.Stepping.{SameBelow}

pub settings_itself : (c : Control) → SameSettings c c
settings_itself c = record { sets = refl; budget = refl; depth = refl }

pub settings_chain : (c c' c'' : Control) → SameSettings c c' → SameSettings c' c'' → SameSettings c c''
settings_chain c c' c'' a b = record { sets = b.sets ∙ a.sets; budget = b.budget ∙ a.budget; depth = b.depth ∙ a.depth }

-- slots are as long as before
pub same_slot : (c c' : Control) → SameSettings c c' → slot c' ≡ slot c
same_slot c c' same = ap₂ (λ b n. b * width n) same.budget same.sets

module _ (count : ℕ) (c : Control) (tables : List ℕ) where
  pub tables_itself : SameTables count c tables c tables
  tables_itself k h = (refl, λ w. refl)

  pub below_itself : SameBelow count c tables tables
  below_itself x h = refl

  module _ (c' : Control) (tables' : List ℕ) where
    pub tables_chain : (c'' : Control) (tables'' : List ℕ) → SameTables count c tables c' tables' → SameTables count c' tables' c'' tables''
        → SameTables count c tables c'' tables''
    tables_chain c'' tables'' a b k h = ((b k h).0 ∙ (a k h).0, λ w. (b k h).1 w ∙ (a k h).1 w)
