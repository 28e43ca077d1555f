-- The samenesses by which met and kept are counted are equalities.
use Rattle.std.proofs.Common.{ℕ, List, sym, refl, ◌∙◌}
use Rattle.words.specs.Automata.{Automaton}
use Rattle.words.specs.Formulas.{Formula, placed, single, negation, both, either, hidden}
use Rattle.words.specs.Hiding.{CollectsBy, SameBut}
use Rattle.words.specs.Meanings.{SameAfter}
use Rattle.words.specs.Residuals.{Equality}
use Rattle.calls.specs.Pile.{SameMet}

pub after_equality : (n : ℕ) (holds : ℕ → List ℕ → Type 0) (f : Formula) → Equality (SameAfter n holds f)
after_equality n holds f = record {
  itself = λ u v cv. ((λ h. h), (λ h. h));
  back = λ u w e v cv. ((e v cv).1, (e v cv).0);
  chain = λ u w x e k v cv. ((λ h. (k v cv).0 ((e v cv).0 h)), (λ h. (e v cv).1 ((k v cv).1 h)));
}

-- both of two equalities
pair_equality : (Same Other : List ℕ → List ℕ → Type 0) → Equality Same → Equality Other → Equality (λ u w. Same u w × Other u w)
pair_equality Same Other a b = record {
  itself = λ u. (a.itself u, b.itself u);
  back = λ u w e. (a.back u w e.0, b.back u w e.1);
  chain = λ u w v e k. (a.chain u w v e.0 k.0, b.chain u w v e.1 k.1);
}

-- an equality up to one bit
module _ (n i : ℕ) (Same : List ℕ → List ℕ → Type 0) (equal : Equality Same) where
  collects_itself : (u : List ℕ) → CollectsBy n i Same u u
  collects_itself u x cx e = (x, cx, e, equal.itself x)

  collects_chain : (u w v : List ℕ) → CollectsBy n i Same u w → CollectsBy n i Same w v → CollectsBy n i Same u v
  collects_chain u w v first second x cx e =
      let y = first x cx e in
      let z = second y.0 y.1 y.2 in
      (z.0, z.1, z.2, equal.chain x y.0 z.0 y.3 z.3)

  but_equality : Equality (SameBut n i Same)
  but_equality = record {
    itself = λ u. (collects_itself u, collects_itself u);
    back = λ u w same. (same.1, same.0);
    chain = λ u w v first second. (collects_chain u w v first.0 second.0, collects_chain v w u second.1 first.1);
  }

pub met_equality : (n : ℕ) (a : ℕ → Automaton) (holds : ℕ → List ℕ → Type 0) (f : Formula) → Equality (SameMet n a holds f)
met_equality n a holds (placed p listed) = record { itself = λ u. refl; back = λ u w e. sym e; chain = λ u w v e k. e ∙ k }
met_equality n a holds (single i) = after_equality n holds (single i)
met_equality n a holds (negation f) = after_equality n holds (negation f)
met_equality n a holds (both f g) = pair_equality (SameAfter n holds f) (SameAfter n holds g) (after_equality n holds f) (after_equality n holds g)
met_equality n a holds (either f g) = pair_equality (SameAfter n holds f) (SameAfter n holds g) (after_equality n holds f) (after_equality n holds g)
met_equality n a holds (hidden i f) = but_equality n i (SameAfter n holds f) (after_equality n holds f)
