-- A tray that stands for a pile, after one call that the tray accepted.
use Rattle.std.proofs.Common.{◌≡◌, ℕ, ◌<◌, Bool, List, [], ◌∷◌, length, Decides, sym, subst, arith}
use Rattle.words.specs.Automata.{Automaton}
use Rattle.words.specs.Formulas.{Formula, Names, Satisfies, Tells}
use Rattle.tray.specs.Building.{SameSettings, SameTables, Built}
use Rattle.tray.specs.View.{says}
use Rattle.tray.specs.declared.control.Control.{Control}
use Rattle.calls.specs.Lent.{Lent}
use Rattle.calls.specs.Owed.{Terms}
use Rattle.calls.specs.Promise.{TellEach, StandsFor, settings_of, terms}

-- what a call on this tray goes by
abbrev pub going : Control → Lent → ℕ → (ℕ → Automaton) → Terms
going c lent size a = terms (settings_of c) lent size a

pub same_settings : (c c' : Control) → SameSettings c c' → settings_of c' ≡ settings_of c
same_settings c c' same i = record { sets = same.sets i; budget = same.budget i; depth = same.depth i }

-- a test that answers as another tells what it tells
tells_same : (n : ℕ) (holds : ℕ → List ℕ → Type 0) (f : Formula) (L M : List ℕ → Bool) → ((w : List ℕ) → M w ≡ L w) → Tells n holds f L → Tells n holds f M
tells_same n holds f L M same t w cw = subst (λ b. Decides b (Satisfies holds f w)) (sym (same w)) (t w cw)

pub tell_each_same : (n : ℕ) (holds : ℕ → List ℕ → Type 0) (table table' : ℕ → List ℕ → Bool) (pile : List Formula)
    → ((k : ℕ) → k < length pile → (w : List ℕ) → table' k w ≡ table k w) → TellEach n holds table pile → TellEach n holds table' pile
tell_each_same n holds table table' [] same told = tt
tell_each_same n holds table table' (f ∷ rest) same told = (
  told.0,
  tells_same n holds f (table (length rest)) (table' (length rest)) (same (length rest) (omega arith)) told.1,
  tell_each_same n holds table table' rest (λ k h. same k (omega arith)) told.2,
)

module _ (holds : ℕ → List ℕ → Type 0) (c : Control) (tables : List ℕ) (c' : Control) (tables' : List ℕ) where
  -- some of the tables are left
  pub stands_lower : (rest : List Formula) → SameSettings c c' → c'.count ≡ length rest → SameTables (length rest) c tables c' tables'
      → TellEach c.sets holds (says c tables) rest → StandsFor holds c' tables' rest
  stands_lower rest settings count others told = record {
    count = count;
    tells = subst (λ n. TellEach n holds (says c' tables') rest) (sym settings.sets)
        (tell_each_same c.sets holds (says c tables) (says c' tables') rest (λ k h. (others k h).1) told);
  }

  -- a table was built above some of them
  pub stands_built : (below : ℕ) (Same : List ℕ → List ℕ → Type 0) (Means : List ℕ → Type 0) (met kept : ℕ) (f : Formula) (rest : List Formula)
      → Built below Same Means met kept c tables c' tables' → length rest ≡ below → TellEach c.sets holds (says c tables) rest
      → Names c.sets f → Tells c.sets holds f (says c' tables' below) → StandsFor holds c' tables' (f ∷ rest)
  stands_built below Same Means met kept f rest b long told names tells = record {
    count = omega (arith, b.count);
    tells = subst (λ n. TellEach n holds (says c' tables') (f ∷ rest)) (sym b.settings.sets) (
      names,
      subst (λ k. Tells c.sets holds f (says c' tables' k)) (sym long) tells,
      tell_each_same c.sets holds (says c tables) (says c' tables') rest (λ k h. (b.others k (omega arith)).1) told,
    );
  }
