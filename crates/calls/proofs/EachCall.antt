-- Each call in turn: what the tray answers is what the pile owes.
use Rattle.std.proofs.Common.{◌≡◌, ℕ, ◌-◌, ◌<◌, Bool, ◌↔◌, List, [], ◌∷◌, ◌++◌, map, length, get_or, Ok, Err, Result, Decides, Bor, refl, sym, subst, arith}
use Rattle.words.specs.Words.{Columns, coded}
use Rattle.words.specs.Automata.{Automaton}
use Rattle.words.specs.Formulas.{Formula, placed, single, negation, both, either, hidden, Names, Tells}
use Rattle.words.specs.Hiding.{Hides, SameCollection}
use Rattle.words.specs.Meanings.{SameAfter}
use Rattle.words.specs.Relations.{Singleton}
use Rattle.words.specs.Residuals.{SameResidual, SamePair, MoreThan}
use Rattle.words.proofs.Pairing.{count_same}
use Rattle.tables.specs.declared.pairs.Join.{Join}
use Rattle.tables.specs.declared.pairs.Join.TheVariants.{Both as both-join, Either as either-join}
use Rattle.tray.specs.Asked.{SameBookState}
use Rattle.tray.specs.Building.{Builds}
use Rattle.tray.specs.Calls.{Places, Singles, JoinsTables, HidesTop, Negates, Drops, single_checks, no_set, full, place_checks, join_checks, hide_checks, top_checks}
use Rattle.tray.specs.Checks.{FirstFailed, AllPass}
use Rattle.tray.specs.Joined.{Joins}
use Rattle.tray.specs.Refusals.{number_of}
use Rattle.tray.specs.View.{says}
use Rattle.tray.specs.declared.control.Control.{Control}
use Rattle.tray.specs.declared.refusal.Refusal.{Refusal}
use Rattle.tray.proofs.Checking.{not_above}
use Rattle.tray.proofs.Telling.{formula_laws}
use Rattle.calls.specs.declared.call.Call.{Call}
use Rattle.calls.specs.declared.call.Call.TheVariants.{Place, Single, Negate, Both, Either, Hide, Drop}
use Rattle.calls.specs.Buffers.{Buffers}
use Rattle.calls.specs.Lent.{Lent}
use Rattle.calls.specs.Owed.{over}
use Rattle.calls.specs.Pile.{Becomes, SameMet}
use Rattle.calls.specs.Promise.{TellEach, StandsFor}
use Rattle.calls.specs.Replies.{built, dropped}
use Rattle.calls.proofs.RunLaws.{more_than}
use Rattle.calls.proofs.Sameness.{after_equality}
use Rattle.calls.proofs.SingleCount.{single_count}
use Rattle.calls.proofs.Exceeding.{over_to, over_from}
use Rattle.calls.proofs.Meaning.{residual_after, after_residual, residual_not_after, not_after_residual, but_same, count_after}
use Rattle.calls.proofs.Standing.{going, same_settings, stands_built, stands_lower}
use Rattle.calls.proofs.Stepping.{Outcome, Steps, built_step, refused_step, outcome, short}

-- what a pile's tables tell, from the top on
module _ (n : ℕ) (holds : ℕ → List ℕ → Type 0) (table : ℕ → List ℕ → Bool) (f : Formula) (rest : List Formula) (told : TellEach n holds table (f ∷ rest)) where
  pub top_names : Names n f
  top_names = told.0

  pub top_tells : (k : ℕ) → k ≡ length rest → Tells n holds f (table k)
  top_tells k e = subst (λ j. Tells n holds f (table j)) (sym e) told.1

  rest_told : TellEach n holds table rest
  rest_told = told.2

module _ (lent : Lent) (size : ℕ) (a : ℕ → Automaton) (holds : ℕ → List ℕ → Type 0) (buffers : Buffers) (c : Control) (tables : List ℕ) (c' : Control) (tables' : List ℕ) where
  pub place_step : (p : ℕ) (listed : Bor (List ℕ)) (pile : List Formula) → StandsFor holds c tables pile → (r : Result (ℕ × ℕ) Refusal)
      → Places lent.states lent.links size p (a p) (holds p) listed.now c tables c' tables' r
      → Steps (going c lent size a) holds pile buffers (Place p listed) (built r) c c' tables' buffers
  place_step p listed pile stands r h =
      let n : ℕ = c.sets in
      let t = going c lent size a in
      let f : Formula = placed p listed.now in
      let Same : List ℕ → List ℕ → Type 0 = SameBookState (a p) listed.now in
      built_step t holds pile buffers (Place p listed) c tables c' tables' stands r f pile (λ pass. refl)
      (outcome lent size a holds pile (Place p listed) c tables c' tables'
      (λ k. place_checks n c.budget c.depth k lent.states lent.links size (a p).places p listed.now) stands.count
      c.count Same (λ w. holds p (map (λ i. coded i w) listed.now)) (MoreThan n Same c.budget) f pile (sym stands.count) stands.tells
      (λ pass j l. not_above n (get_or listed.now j 0) (λ out. pass.1.1.1.0 (j, l, out)))
      (λ means. means) (λ met counted tells pass. counted)
      (λ pass. over_to n a holds pile (Place p listed) f pile refl c.budget Same (λ u w cu cw e. e))
      (λ pass. over_from n a holds pile (Place p listed) f pile refl c.budget Same (λ u w cu cw e. e)) r h)

  -- ---- both and either: the call, and the formula that it makes of two

  module _ (join : Join) (op : Formula → Formula → Formula) (call : Call) where
    joined : (f g : Formula) (rest : List Formula) → Becomes (g ∷ (f ∷ rest)) call (op f g ∷ rest)
        → ((u w : List ℕ) → SameAfter c.sets holds f u w × SameAfter c.sets holds g u w → SameMet c.sets a holds (op f g) u w)
        → ((u w : List ℕ) → SameMet c.sets a holds (op f g) u w → SameAfter c.sets holds f u w × SameAfter c.sets holds g u w)
        → (Names c.sets f → Names c.sets g → Names c.sets (op f g))
        → ((L K M : List ℕ → Bool) → Tells c.sets holds f L → Tells c.sets holds g K
        → ((w : List ℕ) → Columns c.sets w → Decides (M w) (Joins join L K w)) → Tells c.sets holds (op f g) M)
        → StandsFor holds c tables (g ∷ (f ∷ rest)) → (r : Result (ℕ × ℕ) Refusal)
        → JoinsTables join lent.pairs lent.links c tables c' tables' r
        → Outcome (going c lent size a) holds
        (join_checks c.budget (length (g ∷ (f ∷ rest))) lent.pairs lent.links ++ over (going c lent size a) holds (g ∷ (f ∷ rest)) call) (op f g) rest
        c tables c' tables' r
    joined f g rest becomes to from names tells stands r h =
        let n : ℕ = c.sets in
        let pile : List Formula = g ∷ (f ∷ rest) in
        let table : ℕ → List ℕ → Bool = says c tables in
        let L : List ℕ → Bool = table (c.count - 2) in
        let K : List ℕ → Bool = table (c.count - 1) in
        let more = rest_told n holds table g (f ∷ rest) stands.tells in
        let tf : Tells n holds f L = top_tells n holds table f rest more (c.count - 2) (omega (arith, stands.count)) in
        let tg : Tells n holds g K = top_tells n holds table g (f ∷ rest) stands.tells (c.count - 1) (omega (arith, stands.count)) in
        let Same : List ℕ → List ℕ → Type 0 = SamePair n L K in
        let to_met : (u w : List ℕ) → Columns n u → Columns n w → Same u w → SameMet n a holds (op f g) u w =
        λ u w cu cw e. to u w (residual_after n holds f L tf u w cu cw e.0, residual_after n holds g K tg u w cu cw e.1) in
        let from_met : (u w : List ℕ) → Columns n u → Columns n w → SameMet n a holds (op f g) u w → Same u w =
        λ u w cu cw e. let b = from u w e in (after_residual n holds f L tf u w cu cw b.0, after_residual n holds g K tg u w cu cw b.1) in
        outcome lent size a holds pile call c tables c' tables' (λ k. join_checks c.budget k lent.pairs lent.links) stands.count
        (c.count - 2) Same (Joins join L K) (MoreThan n Same c.budget) (op f g) rest (omega (arith, stands.count)) (rest_told n holds table f rest more)
        (λ pass. names (top_names n holds table f rest more) (top_names n holds table g (f ∷ rest) stands.tells))
        (λ means. tells L K (says c' tables' (c.count - 2)) tf tg means)
        (λ met counted tells pass. count_same n Same (SameMet n a holds (op f g)) met to_met from_met counted)
        (λ pass. over_to n a holds pile call (op f g) rest becomes c.budget Same from_met)
        (λ pass. over_from n a holds pile call (op f g) rest becomes c.budget Same to_met) r h

    too_short : (pile : List Formula) → length pile < 2 → StandsFor holds c tables pile → (r : Result (ℕ × ℕ) Refusal)
        → JoinsTables join lent.pairs lent.links c tables c' tables' r
        → Outcome (going c lent size a) holds (join_checks c.budget (length pile) lent.pairs lent.links ++ over (going c lent size a) holds pile call)
        (single 0) [] c tables c' tables' r
    too_short pile few stands r h =
        short lent size a holds pile call c tables c' tables' (λ k. join_checks c.budget k lent.pairs lent.links) stands.count
        (c.count - 2) (SamePair c.sets (says c tables (c.count - 2)) (says c tables (c.count - 1)))
        (Joins join (says c tables (c.count - 2)) (says c tables (c.count - 1)))
        (MoreThan c.sets (SamePair c.sets (says c tables (c.count - 2)) (says c tables (c.count - 1))) c.budget)
        (λ pass. pass.1.0 (omega (arith, few, stands.count))) (single 0) [] r h

  pub both_step : (pile : List Formula) → StandsFor holds c tables pile → (r : Result (ℕ × ℕ) Refusal)
      → JoinsTables both-join lent.pairs lent.links c tables c' tables' r
      → Steps (going c lent size a) holds pile buffers Both (built r) c c' tables' buffers
  both_step [] stands r h =
      built_step (going c lent size a) holds [] buffers Both c tables c' tables' stands r (single 0) [] (λ pass. absurd (pass.1.0 (omega arith)))
      (too_short both-join both Both [] (omega arith) stands r h)
  both_step (g ∷ []) stands r h =
      built_step (going c lent size a) holds (g ∷ []) buffers Both c tables c' tables' stands r (single 0) [] (λ pass. absurd (pass.1.0 (omega arith)))
      (too_short both-join both Both (g ∷ []) (omega arith) stands r h)
  both_step (g ∷ (f ∷ rest)) stands r h =
      built_step (going c lent size a) holds (g ∷ (f ∷ rest)) buffers Both c tables c' tables' stands r (both f g) rest (λ pass. (f, g, rest, refl, refl))
      (joined both-join both Both f g rest (f, g, rest, refl, refl) (λ u w e. e) (λ u w e. e) (λ x y. (x, y))
      ((formula_laws holds).both_tells c.sets f g) stands r h)

  pub either_step : (pile : List Formula) → StandsFor holds c tables pile → (r : Result (ℕ × ℕ) Refusal)
      → JoinsTables either-join lent.pairs lent.links c tables c' tables' r
      → Steps (going c lent size a) holds pile buffers Either (built r) c c' tables' buffers
  either_step [] stands r h =
      built_step (going c lent size a) holds [] buffers Either c tables c' tables' stands r (single 0) [] (λ pass. absurd (pass.1.0 (omega arith)))
      (too_short either-join either Either [] (omega arith) stands r h)
  either_step (g ∷ []) stands r h =
      built_step (going c lent size a) holds (g ∷ []) buffers Either c tables c' tables' stands r (single 0) [] (λ pass. absurd (pass.1.0 (omega arith)))
      (too_short either-join either Either (g ∷ []) (omega arith) stands r h)
  either_step (g ∷ (f ∷ rest)) stands r h =
      built_step (going c lent size a) holds (g ∷ (f ∷ rest)) buffers Either c tables c' tables' stands r (either f g) rest (λ pass. (f, g, rest, refl, refl))
      (joined either-join either Either f g rest (f, g, rest, refl, refl) (λ u w e. e) (λ u w e. e) (λ x y. (x, y))
      ((formula_laws holds).either_tells c.sets f g) stands r h)

  -- ---- hide

  pub hide_step : (i : ℕ) (pile : List Formula) → StandsFor holds c tables pile → (r : Result (ℕ × ℕ) Refusal)
      → HidesTop lent.sets lent.links i c tables c' tables' r
      → Steps (going c lent size a) holds pile buffers (Hide i) (built r) c c' tables' buffers
  hide_step i [] stands r h =
      let Same : List ℕ → List ℕ → Type 0 = SameCollection c.sets i (says c tables (c.count - 1)) in
      built_step (going c lent size a) holds [] buffers (Hide i) c tables c' tables' stands r (single 0) [] (λ pass. absurd (pass.1.1.0 (omega arith)))
      (short lent size a holds [] (Hide i) c tables c' tables' (λ k. hide_checks c.sets c.budget k lent.sets lent.links i) stands.count
      (c.count - 1) Same (Hides c.sets i (says c tables (c.count - 1))) (MoreThan c.sets Same c.budget)
      (λ pass. pass.1.1.0 (omega (arith, stands.count))) (single 0) [] r h)
  hide_step i (f ∷ rest) stands r h =
      let n : ℕ = c.sets in
      let table : ℕ → List ℕ → Bool = says c tables in
      let L : List ℕ → Bool = table (c.count - 1) in
      let tf : Tells n holds f L = top_tells n holds table f rest stands.tells (c.count - 1) (omega (arith, stands.count)) in
      let names : Names n f = top_names n holds table f rest stands.tells in
      let Same : List ℕ → List ℕ → Type 0 = SameCollection n i L in
      let to_met : (u w : List ℕ) → Columns n u → Columns n w → Same u w → SameMet n a holds (hidden i f) u w =
      λ u w cu cw. but_same n i (SameResidual n L) (SameAfter n holds f) (residual_after n holds f L tf) u w in
      let from_met : (u w : List ℕ) → Columns n u → Columns n w → SameMet n a holds (hidden i f) u w → Same u w =
      λ u w cu cw. but_same n i (SameAfter n holds f) (SameResidual n L) (after_residual n holds f L tf) u w in
      built_step (going c lent size a) holds (f ∷ rest) buffers (Hide i) c tables c' tables' stands r (hidden i f) rest (λ pass. (f, rest, refl, refl))
      (outcome lent size a holds (f ∷ rest) (Hide i) c tables c' tables' (λ k. hide_checks n c.budget k lent.sets lent.links i) stands.count
      (c.count - 1) Same (Hides n i L) (MoreThan n Same c.budget) (hidden i f) rest (omega (arith, stands.count)) (rest_told n holds table f rest stands.tells)
      (λ pass. (not_above n i pass.1.0, names))
      (λ means. (formula_laws holds).hidden_tells n i f L (says c' tables' (c.count - 1)) names tf means)
      (λ met counted tells pass. count_same n Same (SameMet n a holds (hidden i f)) met to_met from_met counted)
      (λ pass. over_to n a holds (f ∷ rest) (Hide i) (hidden i f) rest (f, rest, refl, refl) c.budget Same from_met)
      (λ pass. over_from n a holds (f ∷ rest) (Hide i) (hidden i f) rest (f, rest, refl, refl) c.budget Same to_met) r h)

  -- ---- negate

  pub negate_step : (pile : List Formula) → StandsFor holds c tables pile → (r : Result (ℕ × ℕ) Refusal)
      → Negates c tables c' tables' r → Steps (going c lent size a) holds pile buffers Negate (built r) c c' tables' buffers
  negate_step pile stands (Err why) h =
      refused_step (going c lent size a) holds pile buffers Negate c tables c' tables' stands why
      (subst (λ k. FirstFailed (top_checks k) (number_of why)) stands.count h.0) h.1 h.2
  negate_step [] stands (Ok counts) h = absurd (h.0.0 (omega (arith, stands.count)))
  negate_step (f ∷ rest) stands (Ok counts) h =
      let n : ℕ = c.sets in
      let table : ℕ → List ℕ → Bool = says c tables in
      let L : List ℕ → Bool = table (c.count - 1) in
      let tf : Tells n holds f L = top_tells n holds table f rest stands.tells (c.count - 1) (omega (arith, stands.count)) in
      let tells = (formula_laws holds).negation_tells n f L (says c' tables' (c.count - 1)) tf h.1.means in
      built_step (going c lent size a) holds (f ∷ rest) buffers Negate c tables c' tables' stands (Ok counts) (negation f) rest (λ pass. (f, rest, refl, refl)) (
        subst (λ k. AllPass (top_checks k)) stands.count h.0,
        count_same n (SameResidual n L) (SameAfter n holds (negation f)) counts.0 (residual_not_after n holds f L tf) (not_after_residual n holds f L tf) h.1.met_count,
        count_after n holds (negation f) (says c' tables' (c.count - 1)) tells counts.1 h.1.kept_count,
        h.1.met_few,
        same_settings c c' h.1.settings,
        stands_built holds c tables c' tables' (c.count - 1) (SameResidual n L) _ counts.0 counts.1 (negation f) rest h.1
            (omega (arith, stands.count)) (rest_told n holds table f rest stands.tells) (top_names n holds table f rest stands.tells) tells,
      )

  -- ---- drop

  pub drop_step : (pile : List Formula) → StandsFor holds c tables pile → (r : Result (Unit {0}) Refusal)
      → Drops c tables c' tables' r → Steps (going c lent size a) holds pile buffers Drop (dropped r) c c' tables' buffers
  drop_step pile stands (Err why) h =
      refused_step (going c lent size a) holds pile buffers Drop c tables c' tables' stands why
      (subst (λ k. FirstFailed (top_checks k) (number_of why)) stands.count h.0) h.1 h.2
  drop_step [] stands (Ok done) h = absurd (h.0.0 (omega (arith, stands.count)))
  drop_step (f ∷ rest) stands (Ok done) h =
      let is : c'.count ≡ length rest = omega (arith, h.2, stands.count) in (
        rest,
        (subst (λ k. AllPass (top_checks k)) stands.count h.0, refl, refl, f, refl),
        same_settings c c' h.1,
        stands_lower holds c tables c' tables' rest h.1 is (λ k l. h.3 k (omega (arith, is)))
            (rest_told c.sets holds (says c tables) f rest stands.tells),
      )

  -- ---- single: three are met, so that more than the budget are met exactly where it is below three

  as_builds : (i : ℕ) (r : Result (ℕ × ℕ) Refusal) → Singles i c tables c' tables' r
      → Builds (single_checks c.sets c.budget c.depth c.count i) c.count (SameResidual c.sets (says c' tables' c.count)) (λ w. Singleton (coded i w)) c tables c' tables' r
  as_builds i (Ok counts) h = h.2
  as_builds i (Err why) h = h

  pub single_step : (i : ℕ) (pile : List Formula) → StandsFor holds c tables pile → (r : Result (ℕ × ℕ) Refusal)
      → Singles i c tables c' tables' r → Steps (going c lent size a) holds pile buffers (Single i) (built r) c c' tables' buffers
  single_step i pile stands r h =
      let n : ℕ = c.sets in
      let few : ℕ → List (ℕ × Type 0) = λ k. no_set n i ∷ full c.depth k ∷ [] in
      let M : List ℕ → Bool = says c' tables' c.count in
      let Same : List ℕ → List ℕ → Type 0 = SameAfter n holds (single i) in
      let more : AllPass (few c.count) → MoreThan n Same c.budget ↔ (c.budget < 3) =
      λ pass. more_than n Same (after_equality n holds (single i)) c.budget 3 (single_count n holds i (not_above n i pass.0)) in
      built_step (going c lent size a) holds pile buffers (Single i) c tables c' tables' stands r (single i) pile (λ pass. refl)
      (outcome lent size a holds pile (Single i) c tables c' tables' few stands.count
      c.count (SameResidual n M) (λ w. Singleton (coded i w)) (c.budget < 3) (single i) pile (sym stands.count) stands.tells
      (λ pass. not_above n i pass.0)
      (λ means. means) (λ met counted tells pass. count_after n holds (single i) M tells met counted)
      (λ pass few_states. (single i, pile, refl, (more pass).1 few_states))
      (λ pass x. (more pass).0 (over_from n a holds pile (Single i) (single i) pile refl c.budget Same (λ u w cu cw e. e) x)) r (as_builds i r h))
