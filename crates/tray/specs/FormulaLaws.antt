-- Formulas and the calls: what the new top of a building call tells, and what a verdict says about finite sets.
use Rattle.std.specs.Prelude.{ℕ, Bool, true, List, map, Decides, ◌≢◌}
use Rattle.words.specs.Words.{Columns, coded}
use Rattle.words.specs.Relations.{Singleton}
use Rattle.words.specs.Residuals.{BySets}
use Rattle.words.specs.Formulas.{Formula, placed, single, negation, both, either, hidden, Truth, Names, Tells}
use Rattle.words.specs.Hiding.{Hides}
use Rattle.tables.specs.declared.pairs.Join.TheVariants.{Both, Either}
use Rattle.judging.specs.declared.verdict.Verdict.{Verdict}
use Rattle.judging.specs.declared.verdict.Verdict.TheVariants.{NoSets, SomeSets, AllSets}
use Rattle.judging.specs.Judged.{Says}
use Rattle.tray.specs.Joined.{Joins}

-- what a verdict says of a formula: no choice of finite sets makes it true; some does and some does not; each does
abbrev pub Meets : (ℕ → List ℕ → Type 0) → Formula → Verdict → Type 0
Meets holds f NoSets = (x : ℕ → ℕ) → Truth holds f x → ⊥
Meets holds f SomeSets = ((x : ℕ → ℕ) × Truth holds f x) × ((x : ℕ → ℕ) × (Truth holds f x → ⊥))
Meets holds f AllSets = (x : ℕ → ℕ) → Truth holds f x

-- M is what the new top accepts, as the contract of the call has it, and L and K what the tables below it accepted. Where
-- these told formulas, M tells the formula that is made of them.
pub record FormulaLaws (holds : ℕ → List ℕ → Type 0) : Type 0 where
  pub placed_tells : (n p : ℕ) (listed : List ℕ) (M : List ℕ → Bool)
      → ((w : List ℕ) → Columns n w → Decides (M w) (holds p (map (λ i. coded i w) listed))) → Tells n holds (placed p listed) M
  pub single_tells : (n i : ℕ) (M : List ℕ → Bool)
      → ((w : List ℕ) → Columns n w → Decides (M w) (Singleton (coded i w))) → Tells n holds (single i) M
  pub negation_tells : (n : ℕ) (f : Formula) (L M : List ℕ → Bool) → Tells n holds f L
      → ((w : List ℕ) → Columns n w → Decides (M w) (L w ≢ true)) → Tells n holds (negation f) M
  pub both_tells : (n : ℕ) (f g : Formula) (L K M : List ℕ → Bool) → Tells n holds f L → Tells n holds g K
      → ((w : List ℕ) → Columns n w → Decides (M w) (Joins Both L K w)) → Tells n holds (both f g) M
  pub either_tells : (n : ℕ) (f g : Formula) (L K M : List ℕ → Bool) → Tells n holds f L → Tells n holds g K
      → ((w : List ℕ) → Columns n w → Decides (M w) (Joins Either L K w)) → Tells n holds (either f g) M
  pub hidden_tells : (n i : ℕ) (f : Formula) (L M : List ℕ → Bool) → Names n f → Tells n holds f L
      → ((w : List ℕ) → Columns n w → Decides (M w) (Hides n i L w)) → Tells n holds (hidden i f) M
  -- the language of a formula depends only on the sets coded
  pub by_sets : (n : ℕ) (f : Formula) (L : List ℕ → Bool) → Names n f → Tells n holds f L → BySets n L
  -- a verdict on the words is one on the finite sets
  pub meets : (n : ℕ) (f : Formula) (L : List ℕ → Bool) (v : Verdict) → Names n f → Tells n holds f L → Says n L v → Meets holds f v
