-- A tray that stood for a pile of formulas, with more tables above its own.
use Rattle.std.proofs.Common.{◌≡◌, ℕ, ◌+◌, Bool, List, [], ◌∷◌, ◌++◌, length, sym, subst, arith}
use Rattle.std.proofs.lemmas.List.{length-append}
use Rattle.words.specs.Formulas.{Formula, Tells}
use Rattle.tray.specs.Building.{SameSettings, SameTables}
use Rattle.tray.specs.View.{says}
use Rattle.tray.specs.declared.control.Control.{Control}
use Rattle.calls.specs.Promise.{TellEach}
use Rattle.calls.proofs.Standing.{tell_each_same}
use Rattle.reading.specs.Reading.{StandsWith}
use Rattle.reading.specs.Stepping.{SameTray}

-- tables that tell the formulas of a pile, and tables above them that tell more
tell_more : (n : ℕ) (holds : ℕ → List ℕ → Type 0) (table : ℕ → List ℕ → Bool) (below : ℕ) (more pile : List Formula) → below ≡ length pile
    → TellEach n holds (λ k. table (below + k)) more → TellEach n holds table pile → TellEach n holds table (more ++ pile)
tell_more n holds table below [] pile is told lower = lower
tell_more n holds table below (f ∷ rest) pile is told lower =
    let here : below + length rest ≡ length (rest ++ pile) = omega (arith, is, length-append rest pile) in (
      told.0,
      subst (λ k. Tells n holds f (table k)) here told.1,
      tell_more n holds table below rest pile is told.2 lower,
    )

module _ (holds : ℕ → List ℕ → Type 0) (c : Control) (tables : List ℕ) (c' : Control) (tables' : List ℕ) where
  pub stands_with : (more : List Formula) → SameSettings c c' → c'.count ≡ c.count + length more → SameTables c.count c tables c' tables'
      → TellEach c.sets holds (λ k. says c' tables' (c.count + k)) more → StandsWith holds more c tables c' tables'
  stands_with more same count others told pile s = record {
    count = omega (arith, count, s.count, length-append more pile);
    tells = subst (λ n. TellEach n holds (says c' tables') (more ++ pile)) (sym same.sets)
        (tell_more c.sets holds (says c' tables') c.count more pile s.count told
        (tell_each_same c.sets holds (says c tables) (says c' tables') pile (λ k h. (others k (omega (arith, s.count))).1) s.tells));
  }

  pub stands_still : SameTray c tables c' tables' → StandsWith holds [] c tables c' tables'
  stands_still same = stands_with [] same.0 (omega (arith, same.1)) same.2 tt
