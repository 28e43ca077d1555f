-- One step of many: what the tray answers to it, and how far all of them have come.
use Rattle.std.proofs.Common.{◌≡◌, ℕ, ◌+◌, ◌<◌, ◌≤◌, List, [], ◌∷◌, length, map, drop, get_or, Ok, Err, refl, sym, ap, subst}
use Rattle.std.proofs.lemmas.List.{at_drop_more, drop_all}
use Rattle.words.specs.Automata.{Automaton}
use Rattle.words.specs.Formulas.{Formula}
use Rattle.tray.specs.Refusals.{number_of}
use Rattle.tray.specs.declared.control.Control.{Control}
use Rattle.tray.specs.declared.refusal.Refusal.{Refusal}
use Rattle.calls.specs.Lent.{Lent}
use Rattle.calls.specs.Owed.{Terms}
use Rattle.grammar.specs.declared.step.Step.{Step}
use Rattle.grammar.specs.Steps.{Call, step_of}
use Rattle.reading.specs.Building.{puts, refused_place, AllMade, RefusedAt}
use Rattle.reading.specs.Stepping.{Steps, Leaves, SameTray, StandsAbove, Enough, pile_after, Counted, terms_of}
use Rattle.reading.proofs.Above.{each_step}
use Rattle.reading.proofs.Underway.{Underway, none_made, one_made, one_refused, all_made, still_below, as_before}

module _ (lent : Lent) (size : ℕ) (a : ℕ → Automaton) (holds : ℕ → List ℕ → Type 0) (steps : List Step) (c : Control) (tables : List ℕ) where
  -- where each step finds enough, the first i steps are made
  abbrev pub Come : ℕ → Control → List ℕ → ℕ × ℕ → Type 0
  Come i c1 tables1 counts =
      Enough 0 (map step_of steps)
      → (pile : List Formula)
      × Underway (terms_of c lent size a) holds c.count (map step_of steps) c tables (map step_of (drop i steps)) pile c1 tables1 counts

  pub come_none : (counts : ℕ × ℕ) → Come 0 c tables counts
  come_none counts enough = ([], none_made (terms_of c lent size a) holds c.count (map step_of steps) c tables refl enough counts)

  module _ (i : ℕ) (other : Step) (there : i < length steps) (c1 : Control) (tables1 : List ℕ) (counts : ℕ × ℕ) (come : Come i c1 tables1 counts)
      (c2 : Control) (tables2 : List ℕ)
    where
      here : (enough : Enough 0 (map step_of steps))
          → Underway (terms_of c lent size a) holds c.count (map step_of steps) c tables (step_of (get_or steps i other) ∷ map step_of (drop (i + 1) steps))
          (come enough).0 c1 tables1 counts
      here enough =
          subst (λ rest. Underway (terms_of c lent size a) holds c.count (map step_of steps) c tables rest (come enough).0 c1 tables1 counts)
          (at_drop_more (map step_of) steps i other there) (come enough).1

      pub come_one : (counts2 : ℕ × ℕ) → Steps lent size a holds (get_or steps i other).build c1 tables1 c2 tables2 (Ok counts2)
          → Come (i + 1) c2 tables2 counts2
      come_one counts2 h enough =
          let t : Terms = terms_of c lent size a in
          let step : ℕ × Call = step_of (get_or steps i other) in
          let rest : List (ℕ × Call) = map step_of (drop (i + 1) steps) in
          let pile : List Formula = (come enough).0 in
          let u = here enough in (
            puts step.1 pile,
            one_made t holds c.count (map step_of steps) c tables step rest pile c1 tables1 counts u c2 tables2 counts2
                (each_step lent size a holds c.count c tables c1 tables1 c2 tables2 (get_or steps i other).build pile u.enough.0 u.stands (Ok counts2) h),
          )

      -- a step that is refused for its place, and the tables above the lowest ones dropped behind it
      pub come_refused : (why : Refusal) → Steps lent size a holds (get_or steps i other).build c1 tables1 c2 tables2 (Err why)
          → (at : ℕ) → at ≡ refused_place (number_of why) (get_or steps i other).place
          → (below : ℕ) → below ≡ c.count → (c3 : Control) (tables3 : List ℕ) → (below ≤ c2.count → Leaves below c2 tables2 c3 tables3)
          → Enough 0 (map step_of steps)
          → RefusedAt (terms_of c lent size a) holds c.count [] (map step_of steps) (number_of why) at × SameTray c tables c3 tables3
      come_refused why h at place below is c3 tables3 leaves enough =
          let t : Terms = terms_of c lent size a in
          let step : ℕ × Call = step_of (get_or steps i other) in
          let rest : List (ℕ × Call) = map step_of (drop (i + 1) steps) in
          let pile : List Formula = (come enough).0 in
          let u = here enough in
          let e = each_step lent size a holds c.count c tables c1 tables1 c2 tables2 (get_or steps i other).build pile u.enough.0 u.stands (Err why) h in
          let left = subst (λ k. k ≤ c2.count → Leaves k c2 tables2 c3 tables3) is leaves in (
            subst (RefusedAt t holds c.count [] (map step_of steps) (number_of why)) (sym place)
                (one_refused t holds c.count (map step_of steps) c tables step rest pile c1 tables1 counts u (number_of why) e.0),
            as_before holds c tables pile c1 tables1 u.stands c2 tables2 e.1 e.2 c3 tables3
                (left (still_below holds c tables pile c1 tables1 u.stands c2 tables2 e.1 e.2)),
          )

  pub come_all : (i : ℕ) (c1 : Control) (tables1 : List ℕ) (counts : ℕ × ℕ) → length steps ≤ i → Come i c1 tables1 counts → Enough 0 (map step_of steps)
      → AllMade (terms_of c lent size a) holds c.count [] (map step_of steps)
      × StandsAbove holds c.count c tables c1 tables1 (pile_after [] (map step_of steps))
      × Counted (terms_of c lent size a) holds (pile_after [] (map step_of steps)) counts
  come_all i c1 tables1 counts done come enough =
      let t : Terms = terms_of c lent size a in
      let x = come enough in
      all_made t holds c.count (map step_of steps) c tables x.0 c1 tables1 counts
      (subst (λ rest. Underway t holds c.count (map step_of steps) c tables rest x.0 c1 tables1 counts) (ap (map step_of) (drop_all i steps done)) x.1)
