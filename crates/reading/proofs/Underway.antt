-- Steps that are made one by one, and what is left of them.
use Rattle.std.proofs.Common.{◌≡◌, ℕ, ◌+◌, ◌-◌, ◌≤◌, List, [], ◌∷◌, length, slice_index, inl, inr, refl, sym, ap, ◌∙◌, subst, arith}
use Rattle.words.specs.Formulas.{Formula}
use Rattle.tray.specs.Checks.{FirstFailed, AllPass}
use Rattle.tray.specs.declared.control.Control.{Control}
use Rattle.calls.specs.Owed.{Terms}
use Rattle.grammar.specs.Steps.{Call, place, single, negate, both, either, hide}
use Rattle.reading.specs.Building.{puts, refused_place, checks, AllMade, RefusedAt}
use Rattle.reading.specs.Stepping.{Leaves, SameTray, StandsAbove, takes, Enough, pile_after, Counted}
use Rattle.reading.proofs.Keeping.{settings_chain, tables_chain}
use Rattle.reading.proofs.Rising.{stands_empty}

-- how long a call leaves the pile
puts_length : (call : Call) (pile : List Formula) → takes call ≤ length pile → length pile - takes call + 1 ≡ length (puts call pile)
puts_length (place p listed) pile enough = omega arith
puts_length (single i) pile enough = omega arith
puts_length negate [] enough = absurd (omega arith)
puts_length negate (f ∷ pile) enough = omega arith
puts_length both [] enough = absurd (omega arith)
puts_length both (g ∷ []) enough = absurd (omega arith)
puts_length both (g ∷ (f ∷ pile)) enough = omega arith
puts_length either [] enough = absurd (omega arith)
puts_length either (g ∷ []) enough = absurd (omega arith)
puts_length either (g ∷ (f ∷ pile)) enough = omega arith
puts_length (hide i) [] enough = absurd (omega arith)
puts_length (hide i) (f ∷ pile) enough = omega arith

module _ (t : Terms) (holds : ℕ → List ℕ → Type 0) (below : ℕ) (all : List (ℕ × Call)) (c : Control) (tables : List ℕ) where
  -- The steps before the rest of all steps are made, and the tray holds the pile that they make. What comes of the rest comes of all.
  pub record Underway (rest : List (ℕ × Call)) (pile : List Formula) (c' : Control) (tables' : List ℕ) (counts : ℕ × ℕ) : Type 0 where
    pub enough : Enough (length pile) rest
    pub ends : pile_after pile rest ≡ pile_after [] all
    pub made : AllMade t holds below pile rest → AllMade t holds below [] all
    pub refused : (number at : ℕ) → RefusedAt t holds below pile rest number at → RefusedAt t holds below [] all number at
    pub stands : StandsAbove holds below c tables c' tables' pile
    pub counted : Counted t holds pile counts

  pub none_made : below ≡ c.count → Enough 0 all → (counts : ℕ × ℕ) → Underway all [] c tables counts
  none_made is enough counts = record {
    enough = enough;
    ends = refl;
    made = λ m. m;
    refused = λ number at r. r;
    stands = subst (λ k. StandsAbove holds k c tables c tables []) (sym is) (stands_empty holds c tables);
    counted = tt;
  }

  module _ (step : ℕ × Call) (rest : List (ℕ × Call)) (pile : List Formula) (c1 : Control) (tables1 : List ℕ) (counts : ℕ × ℕ)
      (u : Underway (step ∷ rest) pile c1 tables1 counts)
    where
      pub one_made : (c2 : Control) (tables2 : List ℕ) (counts2 : ℕ × ℕ)
          → AllPass (checks t holds below pile step.1) × StandsAbove holds below c tables c2 tables2 (puts step.1 pile)
          × Counted t holds (puts step.1 pile) counts2
          → Underway rest (puts step.1 pile) c2 tables2 counts2
      one_made c2 tables2 counts2 h = record {
        enough = subst (λ k. Enough k rest) (puts_length step.1 pile u.enough.0) u.enough.1;
        ends = u.ends;
        made = λ m. u.made (h.0, m);
        refused = λ number at r. u.refused number at (inr (h.0, r));
        stands = h.1;
        counted = h.2;
      }

      pub one_refused : (number : ℕ) → FirstFailed (checks t holds below pile step.1) number
          → RefusedAt t holds below [] all number (refused_place number step.0)
      one_refused number failed = u.refused number (refused_place number step.0) (inl (failed, refl))

  pub all_made : (pile : List Formula) (c' : Control) (tables' : List ℕ) (counts : ℕ × ℕ) → Underway [] pile c' tables' counts
      → AllMade t holds below [] all × StandsAbove holds below c tables c' tables' (pile_after [] all) × Counted t holds (pile_after [] all) counts
  all_made pile c' tables' counts u = (
    u.made tt,
    subst (StandsAbove holds below c tables c' tables') u.ends u.stands,
    subst (λ p. Counted t holds p counts) u.ends u.counted,
  )

-- where the tables of the pile are dropped, the tray is as it was
module _ (holds : ℕ → List ℕ → Type 0) (c : Control) (tables : List ℕ) (pile : List Formula) (c1 : Control) (tables1 : List ℕ)
    (stands : StandsAbove holds c.count c tables c1 tables1 pile) (c2 : Control) (tables2 : List ℕ) (same : c2 ≡ c1) (same_tables : tables2 ≡ tables1)
  where
    pub still_below : c.count ≤ c2.count
    still_below = omega (arith, stands.count, ap (λ x. x.count) same)

    pub as_before : (c3 : Control) (tables3 : List ℕ) → Leaves c.count c2 tables2 c3 tables3 → SameTray c tables c3 tables3
    as_before c3 tables3 leaves =
        let left : Leaves c.count c1 tables1 c3 tables3 =
        subst (λ x. Leaves c.count x tables1 c3 tables3) same (subst (λ ts. Leaves c.count c2 ts c3 tables3) same_tables leaves) in (
          settings_chain c c1 c3 stands.settings left.0,
          left.1,
          tables_chain c.count c tables c1 tables1 c3 tables3 stands.others left.2,
          (λ x h. ap (λ ts. slice_index ts x) left.3 ∙ stands.memory x h),
        )
