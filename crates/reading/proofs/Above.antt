-- One building call on a tray that holds a pile above its tables: what the tray answered is what the pile owes.
use Rattle.std.proofs.Common.{◌≡◌, ℕ, ◌+◌, ◌-◌, ◌*◌, ◌<◌, ◌≤◌, Bool, ◌↔◌, List, [], ◌∷◌, ◌++◌, map, take, length, All, get_or, Ok, Err, Result, Decides, sym, ap, ◌∙◌, subst, arith}
use Rattle.std.proofs.lemmas.List.Elements.{All-head, All-tail}
use Rattle.words.specs.Automata.{Automaton}
use Rattle.words.specs.Formulas.{Formula, placed, single, negation, both, either, hidden, Names, Tells}
use Rattle.words.specs.Hiding.{Hides, SameCollection}
use Rattle.words.specs.Meanings.{SameAfter}
use Rattle.words.specs.Relations.{Singleton}
use Rattle.words.specs.Residuals.{Count, SameResidual, SamePair, MoreThan}
use Rattle.words.specs.Words.{Columns, coded}
use Rattle.words.proofs.Pairing.{count_same, more_same}
use Rattle.tables.specs.declared.pairs.Join.{Join}
use Rattle.tables.specs.declared.pairs.Join.TheVariants.{Both as both-join, Either as either-join}
use Rattle.tray.specs.Asked.{SameBookState}
use Rattle.tray.specs.Building.{SameSettings, Builds}
use Rattle.tray.specs.Calls.{Places, Singles, JoinsTables, HidesTop, Negates, single_checks, no_set, full, place_checks, join_checks, hide_checks, top_checks}
use Rattle.tray.specs.Checks.{FirstFailed, AllPass}
use Rattle.tray.specs.Joined.{Joins}
use Rattle.tray.specs.Refusals.{number_of}
use Rattle.tray.specs.View.{says}
use Rattle.tray.specs.declared.control.Control.{Control}
use Rattle.tray.specs.declared.refusal.Refusal.{Refusal}
use Rattle.tray.proofs.Checking.{not_above}
use Rattle.tray.proofs.Telling.{formula_laws}
use Rattle.calls.specs.Lent.{Lent}
use Rattle.calls.specs.Owed.{Terms}
use Rattle.calls.specs.Pile.{SameMet}
use Rattle.calls.specs.Promise.{TellEach}
use Rattle.calls.proofs.Checking.{last_fails, last_passes, early_pass}
use Rattle.calls.proofs.Meaning.{residual_after, after_residual, residual_not_after, not_after_residual, but_same, count_after}
use Rattle.calls.proofs.RunLaws.{more_than}
use Rattle.calls.proofs.Sameness.{after_equality}
use Rattle.calls.proofs.SingleCount.{single_count}
use Rattle.grammar.specs.declared.step.Build.{Build}
use Rattle.grammar.specs.declared.step.Build.TheVariants.{Place, Single, Negate, Both, Either, Hide}
use Rattle.grammar.specs.Steps.{Call, place, single as single-call, negate, both as both-call, either as either-call, hide, call_of}
use Rattle.reading.specs.Building.{puts, checks}
use Rattle.reading.specs.Formulas.{Decided}
use Rattle.reading.specs.Stepping.{Steps, Sure, StandsAbove, Counted, takes, terms_of}
use Rattle.reading.proofs.Rising.{told_now, stands_built}

-- what a call on a pile comes to, in words of the pile
abbrev pub Outcome : Terms → (ℕ → List ℕ → Type 0) → ℕ → Control → List ℕ → List Formula → Call → Control → List ℕ → Control → List ℕ
    → Result (ℕ × ℕ) Refusal → Type 0
Outcome t holds below c tables pile call c1 tables1 c2 tables2 (Ok counts) =
    AllPass (checks t holds below pile call) × StandsAbove holds below c tables c2 tables2 (puts call pile) × Counted t holds (puts call pile) counts
Outcome t holds below c tables pile call c1 tables1 c2 tables2 (Err why) =
    FirstFailed (checks t holds below pile call) (number_of why) × (c2 ≡ c1) × (tables2 ≡ tables1)

-- more than the budget are met, for a formula
abbrev met_over : ℕ → (ℕ → Automaton) → (ℕ → List ℕ → Type 0) → ℕ → Formula → List (ℕ × Type 0)
met_over n a holds budget f = (23, MoreThan n (SameMet n a holds f) budget) ∷ []

-- the same, where the checks of the call and the formula that it makes are named
abbrev Comes : ℕ → (ℕ → Automaton) → (ℕ → List ℕ → Type 0) → List (ℕ × Type 0) → ℕ → Formula → List Formula → Control → List ℕ
    → Control → List ℕ → Control → List ℕ → Result (ℕ × ℕ) Refusal → Type 0
Comes n a holds these below f rest c tables c1 tables1 c2 tables2 (Ok counts) =
    AllPass these × StandsAbove holds below c tables c2 tables2 (f ∷ rest)
    × (Count n (SameMet n a holds f) counts.0 × Count n (SameAfter n holds f) counts.1)
Comes n a holds these below f rest c tables c1 tables1 c2 tables2 (Err why) = FirstFailed these (number_of why) × (c2 ≡ c1) × (tables2 ≡ tables1)

told_at : (n : ℕ) (holds : ℕ → List ℕ → Type 0) (c : Control) (tables : List ℕ) (f : Formula) (k j : ℕ) → j ≡ k → Tells n holds f (says c tables k)
    → Tells n holds f (says c tables j)
told_at n holds c tables f k j e told = subst (λ i. Tells n holds f (says c tables i)) (sym e) told

-- calls go by the settings, which stay
same_terms : (lent : Lent) (size : ℕ) (a : ℕ → Automaton) (c c1 : Control) → SameSettings c c1 → terms_of c1 lent size a ≡ terms_of c lent size a
same_terms lent size a c c1 same =
    let made : ℕ → ℕ → ℕ → Terms = λ n b d. record { sets = n; budget = b; depth = d; lent = lent; size = size; automaton = a } in
    ap (λ n. made n c1.budget c1.depth) same.sets ∙ ap (λ b. made c.sets b c1.depth) same.budget ∙ ap (made c.sets c.budget) same.depth

module _ (lent : Lent) (size : ℕ) (a : ℕ → Automaton) (holds : ℕ → List ℕ → Type 0) (below : ℕ) (c : Control) (tables : List ℕ) (c1 : Control) (tables1 : List ℕ)
    (c2 : Control) (tables2 : List ℕ)
  where
    -- a call that makes formula f above the rest of the pile, where b tables are left below it
    module _ (pile : List Formula) (stands : StandsAbove holds below c tables c1 tables1 pile) (early : ℕ → List (ℕ × Type 0)) (b : ℕ)
        (Same : List ℕ → List ℕ → Type 0) (Means : List ℕ → Type 0) (Many : Type 0) (f : Formula) (rest : List Formula) (here : below + length rest ≡ b)
        (told : TellEach c1.sets holds (λ k. says c1 tables1 (below + k)) rest) (sure : All (Sure holds) rest)
      where
        comes : (AllPass (early c1.count) → Names c1.sets f) → (Decided holds f → Sure holds f)
            → (((w : List ℕ) → Columns c1.sets w → Decides (says c2 tables2 b w) (Means w)) → Tells c1.sets holds f (says c2 tables2 b))
            → ((met : ℕ) → Count c1.sets Same met → Tells c1.sets holds f (says c2 tables2 b) → Count c1.sets (SameMet c1.sets a holds f) met)
            → (AllPass (early c1.count) → Many → MoreThan c1.sets (SameMet c1.sets a holds f) c1.budget)
            → (AllPass (early c1.count) → MoreThan c1.sets (SameMet c1.sets a holds f) c1.budget → Many)
            → (r : Result (ℕ × ℕ) Refusal) → Builds (early c1.count ++ ((23, Many) ∷ [])) b Same Means c1 tables1 c2 tables2 r
            → Comes c1.sets a holds (early (below + length pile) ++ met_over c1.sets a holds c1.budget f) below f rest c tables c1 tables1 c2 tables2 r
        comes names parts means met to from (Ok counts) h =
            let built = h.1 in
            let pass = early_pass (early c1.count) ((23, Many) ∷ []) h.0 in
            let tells = means built.means in (
              subst (λ k. AllPass (early k ++ met_over c1.sets a holds c1.budget f)) stands.count (last_passes (early c1.count) 23 Many _ from h.0),
              stands_built holds below c tables c1 tables1 pile stands c2 tables2 b Same Means counts.0 counts.1 f rest built here told sure
                  (names pass) tells parts,
              (met counts.0 built.met_count tells, count_after c1.sets holds f (says c2 tables2 b) tells counts.1 built.kept_count),
            )
        comes names parts means met to from (Err why) h = (
          subst (λ k. FirstFailed (early k ++ met_over c1.sets a holds c1.budget f) (number_of why)) stands.count
              (last_fails (early c1.count) 23 Many _ (number_of why) to from h.0),
          h.1,
          h.2,
        )

    place_step : (p : ℕ) (listed : List ℕ) (pile : List Formula) → StandsAbove holds below c tables c1 tables1 pile → (r : Result (ℕ × ℕ) Refusal)
        → Places lent.states lent.links size p (a p) (holds p) listed c1 tables1 c2 tables2 r
        → Outcome (terms_of c1 lent size a) holds below c tables pile (place p listed) c1 tables1 c2 tables2 r
    place_step p listed pile stands r h =
        let n : ℕ = c1.sets in
        let Same : List ℕ → List ℕ → Type 0 = SameBookState (a p) listed in
        comes pile stands (λ k. place_checks n c1.budget c1.depth k lent.states lent.links size (a p).places p listed)
        c1.count Same (λ w. holds p (map (λ i. coded i w) listed)) (MoreThan n Same c1.budget) (placed p listed) pile (sym stands.count)
        (told_now holds below c tables c1 tables1 pile stands) stands.sure
        (λ pass j l. not_above n (get_or listed j 0) (λ out. pass.1.1.1.0 (j, l, out))) (λ decided. decided)
        (λ means. means) (λ met counted tells. counted) (λ pass more. more) (λ pass more. more) r h

    -- ---- both and either: the call, and the formula that it makes of two

    module _ (join : Join) (op : Formula → Formula → Formula) (f g : Formula) (rest : List Formula)
        (stands : StandsAbove holds below c tables c1 tables1 (g ∷ (f ∷ rest)))
      where
        joined : ((u w : List ℕ) → SameAfter c1.sets holds f u w × SameAfter c1.sets holds g u w → SameMet c1.sets a holds (op f g) u w)
            → ((u w : List ℕ) → SameMet c1.sets a holds (op f g) u w → SameAfter c1.sets holds f u w × SameAfter c1.sets holds g u w)
            → (Names c1.sets f → Names c1.sets g → Names c1.sets (op f g))
            → (Sure holds f → Sure holds g → Decided holds (op f g) → Sure holds (op f g))
            → ((L K M : List ℕ → Bool) → Tells c1.sets holds f L → Tells c1.sets holds g K
            → ((w : List ℕ) → Columns c1.sets w → Decides (M w) (Joins join L K w)) → Tells c1.sets holds (op f g) M)
            → (r : Result (ℕ × ℕ) Refusal) → JoinsTables join lent.pairs lent.links c1 tables1 c2 tables2 r
            → Comes c1.sets a holds
            (join_checks c1.budget (below + length (g ∷ (f ∷ rest))) lent.pairs lent.links ++ met_over c1.sets a holds c1.budget (op f g)) below (op f g) rest
            c tables c1 tables1 c2 tables2 r
        joined to from names parts tells r h =
            let n : ℕ = c1.sets in
            let pile : List Formula = g ∷ (f ∷ rest) in
            let L : List ℕ → Bool = says c1 tables1 (c1.count - 2) in
            let K : List ℕ → Bool = says c1 tables1 (c1.count - 1) in
            let told = told_now holds below c tables c1 tables1 pile stands in
            let more = told.2 in
            let tf : Tells n holds f L = told_at n holds c1 tables1 f (below + length rest) (c1.count - 2) (omega (arith, stands.count)) more.1 in
            let tg : Tells n holds g K = told_at n holds c1 tables1 g (below + length (f ∷ rest)) (c1.count - 1) (omega (arith, stands.count)) told.1 in
            let Same : List ℕ → List ℕ → Type 0 = SamePair n L K in
            let Met : List ℕ → List ℕ → Type 0 = SameMet n a holds (op f g) in
            let to_met : (u w : List ℕ) → Columns n u → Columns n w → Same u w → Met u w =
            λ u w cu cw e. to u w (residual_after n holds f L tf u w cu cw e.0, residual_after n holds g K tg u w cu cw e.1) in
            let from_met : (u w : List ℕ) → Columns n u → Columns n w → Met u w → Same u w =
            λ u w cu cw e. let x = from u w e in (after_residual n holds f L tf u w cu cw x.0, after_residual n holds g K tg u w cu cw x.1) in
            let sure_rest : All (Sure holds) (f ∷ rest) = All-tail (Sure holds) g (f ∷ rest) stands.sure in
            comes pile stands (λ k. join_checks c1.budget k lent.pairs lent.links) (c1.count - 2) Same (Joins join L K) (MoreThan n Same c1.budget)
            (op f g) rest (omega (arith, stands.count)) more.2 (All-tail (Sure holds) f rest sure_rest)
            (λ pass. names more.0 told.0)
            (parts (All-head (Sure holds) f rest sure_rest) (All-head (Sure holds) g (f ∷ rest) stands.sure))
            (λ means. tells L K (says c2 tables2 (c1.count - 2)) tf tg means)
            (λ met counted told_f. count_same n Same Met met to_met from_met counted)
            (λ pass. more_same n Same Met c1.budget from_met)
            (λ pass. more_same n Met Same c1.budget to_met) r h

    both_step : (pile : List Formula) → 2 ≤ length pile → StandsAbove holds below c tables c1 tables1 pile → (r : Result (ℕ × ℕ) Refusal)
        → JoinsTables both-join lent.pairs lent.links c1 tables1 c2 tables2 r
        → Outcome (terms_of c1 lent size a) holds below c tables pile both-call c1 tables1 c2 tables2 r
    both_step [] enough stands r h = absurd (omega arith)
    both_step (g ∷ []) enough stands r h = absurd (omega arith)
    both_step (g ∷ (f ∷ rest)) enough stands r h =
        joined both-join both f g rest stands (λ u w e. e) (λ u w e. e) (λ x y. (x, y)) (λ x y decided. (decided, x, y))
        ((formula_laws holds).both_tells c1.sets f g) r h

    either_step : (pile : List Formula) → 2 ≤ length pile → StandsAbove holds below c tables c1 tables1 pile → (r : Result (ℕ × ℕ) Refusal)
        → JoinsTables either-join lent.pairs lent.links c1 tables1 c2 tables2 r
        → Outcome (terms_of c1 lent size a) holds below c tables pile either-call c1 tables1 c2 tables2 r
    either_step [] enough stands r h = absurd (omega arith)
    either_step (g ∷ []) enough stands r h = absurd (omega arith)
    either_step (g ∷ (f ∷ rest)) enough stands r h =
        joined either-join either f g rest stands (λ u w e. e) (λ u w e. e) (λ x y. (x, y)) (λ x y decided. (decided, x, y))
        ((formula_laws holds).either_tells c1.sets f g) r h

    -- ---- hide

    hide_step : (i : ℕ) (pile : List Formula) → 1 ≤ length pile → StandsAbove holds below c tables c1 tables1 pile → (r : Result (ℕ × ℕ) Refusal)
        → HidesTop lent.sets lent.links i c1 tables1 c2 tables2 r
        → Outcome (terms_of c1 lent size a) holds below c tables pile (hide i) c1 tables1 c2 tables2 r
    hide_step i [] enough stands r h = absurd (omega arith)
    hide_step i (f ∷ rest) enough stands r h =
        let n : ℕ = c1.sets in
        let L : List ℕ → Bool = says c1 tables1 (c1.count - 1) in
        let told = told_now holds below c tables c1 tables1 (f ∷ rest) stands in
        let tf : Tells n holds f L = told_at n holds c1 tables1 f (below + length rest) (c1.count - 1) (omega (arith, stands.count)) told.1 in
        let Same : List ℕ → List ℕ → Type 0 = SameCollection n i L in
        let Met : List ℕ → List ℕ → Type 0 = SameMet n a holds (hidden i f) in
        let to_met : (u w : List ℕ) → Columns n u → Columns n w → Same u w → Met u w =
        λ u w cu cw. but_same n i (SameResidual n L) (SameAfter n holds f) (residual_after n holds f L tf) u w in
        let from_met : (u w : List ℕ) → Columns n u → Columns n w → Met u w → Same u w =
        λ u w cu cw. but_same n i (SameAfter n holds f) (SameResidual n L) (after_residual n holds f L tf) u w in
        comes (f ∷ rest) stands (λ k. hide_checks n c1.budget k lent.sets lent.links i) (c1.count - 1) Same (Hides n i L) (MoreThan n Same c1.budget)
        (hidden i f) rest (omega (arith, stands.count)) told.2 (All-tail (Sure holds) f rest stands.sure)
        (λ pass. (not_above n i pass.1.0, told.0))
        (λ decided. (decided, All-head (Sure holds) f rest stands.sure))
        (λ means. (formula_laws holds).hidden_tells n i f L (says c2 tables2 (c1.count - 1)) told.0 tf means)
        (λ met counted told_f. count_same n Same Met met to_met from_met counted)
        (λ pass. more_same n Same Met c1.budget from_met)
        (λ pass. more_same n Met Same c1.budget to_met) r h

    -- ---- negate

    negate_step : (pile : List Formula) → 1 ≤ length pile → StandsAbove holds below c tables c1 tables1 pile → (r : Result (ℕ × ℕ) Refusal)
        → Negates c1 tables1 c2 tables2 r → Outcome (terms_of c1 lent size a) holds below c tables pile negate c1 tables1 c2 tables2 r
    negate_step pile enough stands (Err why) h = (subst (λ k. FirstFailed (top_checks k) (number_of why)) stands.count h.0, h.1, h.2)
    negate_step [] enough stands (Ok counts) h = absurd (omega arith)
    negate_step (f ∷ rest) enough stands (Ok counts) h =
        let n : ℕ = c1.sets in
        let b : ℕ = c1.count - 1 in
        let L : List ℕ → Bool = says c1 tables1 b in
        let told = told_now holds below c tables c1 tables1 (f ∷ rest) stands in
        let tf : Tells n holds f L = told_at n holds c1 tables1 f (below + length rest) b (omega (arith, stands.count)) told.1 in
        let tells : Tells n holds (negation f) (says c2 tables2 b) = (formula_laws holds).negation_tells n f L (says c2 tables2 b) tf h.1.means in
        let Same : List ℕ → List ℕ → Type 0 = SameResidual n L in
        let After : List ℕ → List ℕ → Type 0 = SameAfter n holds (negation f) in
        let met : Count n After counts.0 =
        count_same n Same After counts.0 (residual_not_after n holds f L tf) (not_after_residual n holds f L tf) h.1.met_count in
        let kept : Count n After counts.1 = count_after n holds (negation f) (says c2 tables2 b) tells counts.1 h.1.kept_count in (
          subst (λ k. AllPass (top_checks k)) stands.count h.0,
          stands_built holds below c tables c1 tables1 (f ∷ rest) stands c2 tables2 b Same _ counts.0 counts.1 (negation f) rest h.1
              (omega (arith, stands.count)) told.2 (All-tail (Sure holds) f rest stands.sure) told.0 tells
              (λ decided. (decided, All-head (Sure holds) f rest stands.sure)),
          (met, kept),
        )

    -- ---- single: three are met, so that more than the budget are met exactly where it is below three

    as_builds : (i : ℕ) (r : Result (ℕ × ℕ) Refusal) → Singles i c1 tables1 c2 tables2 r
        → Builds (single_checks c1.sets c1.budget c1.depth c1.count i) c1.count (SameResidual c1.sets (says c2 tables2 c1.count)) (λ w. Singleton (coded i w))
        c1 tables1 c2 tables2 r
    as_builds i (Ok counts) h = h.2
    as_builds i (Err why) h = h

    single_step : (i : ℕ) (pile : List Formula) → StandsAbove holds below c tables c1 tables1 pile → (r : Result (ℕ × ℕ) Refusal)
        → Singles i c1 tables1 c2 tables2 r → Outcome (terms_of c1 lent size a) holds below c tables pile (single-call i) c1 tables1 c2 tables2 r
    single_step i pile stands r h =
        let n : ℕ = c1.sets in
        let few : ℕ → List (ℕ × Type 0) = λ k. no_set n i ∷ full c1.depth k ∷ [] in
        let M : List ℕ → Bool = says c2 tables2 c1.count in
        let Same : List ℕ → List ℕ → Type 0 = SameAfter n holds (single i) in
        let more : AllPass (few c1.count) → MoreThan n Same c1.budget ↔ (c1.budget < 3) =
        λ pass. more_than n Same (after_equality n holds (single i)) c1.budget 3 (single_count n holds i (not_above n i pass.0)) in
        comes pile stands few c1.count (SameResidual n M) (λ w. Singleton (coded i w)) (c1.budget < 3) (single i) pile (sym stands.count)
        (told_now holds below c tables c1 tables1 pile stands) stands.sure
        (λ pass. not_above n i pass.0) (λ decided. decided)
        (λ means. means) (λ met counted tells. count_after n holds (single i) M tells met counted)
        (λ pass. (more pass).1) (λ pass. (more pass).0) r (as_builds i r h)

    -- ---- any call

    now_step : (build : Build) (pile : List Formula) → takes (call_of build) ≤ length pile → StandsAbove holds below c tables c1 tables1 pile
        → (r : Result (ℕ × ℕ) Refusal) → Steps lent size a holds build c1 tables1 c2 tables2 r
        → Outcome (terms_of c1 lent size a) holds below c tables pile (call_of build) c1 tables1 c2 tables2 r
    now_step (Place p sets places) pile enough stands r h = place_step p (take places sets) pile stands r h
    now_step (Single i) pile enough stands r h = single_step i pile stands r h
    now_step Negate pile enough stands r h = negate_step pile enough stands r h
    now_step Both pile enough stands r h = both_step pile enough stands r h
    now_step Either pile enough stands r h = either_step pile enough stands r h
    now_step (Hide i) pile enough stands r h = hide_step i pile enough stands r h

    -- a call that finds enough on the pile
    pub each_step : (build : Build) (pile : List Formula) → takes (call_of build) ≤ length pile → StandsAbove holds below c tables c1 tables1 pile
        → (r : Result (ℕ × ℕ) Refusal) → Steps lent size a holds build c1 tables1 c2 tables2 r
        → Outcome (terms_of c lent size a) holds below c tables pile (call_of build) c1 tables1 c2 tables2 r
    each_step build pile enough stands r h =
        subst (λ t. Outcome t holds below c tables pile (call_of build) c1 tables1 c2 tables2 r) (same_terms lent size a c c1 stands.settings)
        (now_step build pile enough stands r h)
