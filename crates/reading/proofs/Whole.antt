-- From the steps of a claim to what reading its text answers.
use Rattle.std.proofs.Common.{◌≡◌, ℕ, ◌+◌, ◌≤◌, List, [], ◌∷◌, map, None, Option, Ok, Err, Result, Decides, sym, ap, ◌∙◌, subst, arith}
use Rattle.std.proofs.lemmas.List.Elements.{All-head}
use Rattle.words.specs.Automata.{Automaton}
use Rattle.words.specs.Formulas.{Tells}
use Rattle.words.specs.Words.{Columns}
use Rattle.calls.specs.Lent.{Lent}
use Rattle.tokens.specs.Items.{items_of}
use Rattle.tray.specs.Refusals.{number_of}
use Rattle.tray.specs.View.{says}
use Rattle.tray.specs.declared.control.Control.{Control}
use Rattle.tray.specs.declared.refusal.Refusal.{Refusal}
use Rattle.grammar.specs.declared.step.Step.{Step}
use Rattle.grammar.specs.Claims.{Claim, spelled, Fits}
use Rattle.grammar.specs.Planning.{most, ReadsAs, text_fault}
use Rattle.grammar.specs.Steps.{step_of, all_steps}
use Rattle.reading.specs.Building.{AllMade, RefusedAt}
use Rattle.reading.specs.Formulas.{whole}
use Rattle.reading.specs.Meaning.{Satisfied, WholeMeans}
use Rattle.reading.specs.Reading.{RefusedFor, ReadsText}
use Rattle.reading.specs.Stepping.{SameTray, StandsAbove, Sure, Counted, Enough, pile_after, terms_of, MakesSteps}
use Rattle.reading.specs.declared.fault.Fault.{Fault}
use Rattle.reading.specs.declared.fault.Reason.TheVariants.{Call as call}
use Rattle.reading.proofs.Piles.{whole_pile, whole_enough}
use Rattle.reading.proofs.Raising.{stands_with, stands_still}
use Rattle.reading.proofs.Telling.{means, table_means, residual_count}

pub most_is : (n : ℕ) → n ≤ 8 → most n ≡ n
most_is n few = omega (arith, few)

module _ (numbered : List ℕ → Option ℕ) (size : ℕ) (a : ℕ → Automaton) (holds : ℕ → List ℕ → Type 0) (lent : Lent) (text : List ℕ)
    (c : Control) (tables : List ℕ) (few : c.sets ≤ 8)
  where
    same_reading : (f : Claim) → ReadsAs numbered a c.sets text f → (items_of numbered a text ≡ spelled f []) × Fits c.sets 0 f
    same_reading f r = (r.spells, subst (λ n. Fits n 0 f) (most_is c.sets few) r.fits)

    module _ (f : Claim) (c' : Control) (tables' : List ℕ) (r : ReadsAs numbered a c.sets text f)
        (s : StandsAbove holds c.count c tables c' tables' (whole c.sets f ∷ []))
      where
        built_means : WholeMeans c.sets holds f
        built_means =
            let reading = same_reading f r in
            means numbered a holds c.sets text f reading.0 reading.1 (All-head (Sure holds) (whole c.sets f) [] s.sure)

        -- the table on top tells the claim
        top_means : (w : List ℕ) → Columns c.sets w → Decides (says c' tables' c.count w) (Satisfied holds f w)
        top_means =
            let bottom : c.count + 0 ≡ c.count = omega arith in
            table_means c.sets holds f built_means (says c' tables' c.count)
            (subst (λ k. Tells c.sets holds (whole c.sets f) (says c' tables' k)) bottom s.tells.1)

    module _ (room : ℕ) (f : Claim) (steps : List Step) (none : text_fault numbered a c.sets room text ≡ None) (reads : ReadsAs numbered a c.sets text f)
        (are : map step_of steps ≡ all_steps (most c.sets) f)
      where
        planned : map step_of steps ≡ all_steps c.sets f
        planned = are ∙ ap (λ n. all_steps n f) (most_is c.sets few)

        pub read_text : (c' : Control) (tables' : List ℕ) (r : Result (ℕ × ℕ) Fault) → MakesSteps lent size a holds steps c tables c' tables' r
            → ReadsText numbered size a holds lent room text c tables c' tables' r
        read_text c' tables' (Ok counts) h =
            let t = terms_of c lent size a in
            let done = subst (λ calls. Enough 0 calls → AllMade t holds c.count [] calls × StandsAbove holds c.count c tables c' tables' (pile_after [] calls)
            × Counted t holds (pile_after [] calls) counts) planned h (whole_enough c.sets f) in
            let stands = subst (λ pile. StandsAbove holds c.count c tables c' tables' pile) (whole_pile c.sets f) done.1 in
            let counted = subst (λ pile. Counted t holds pile counts) (whole_pile c.sets f) done.2 in (
              none,
              f,
              record {
                reads = reads;
                passes = done.0;
                settings = stands.settings;
                count = stands.count;
                others = stands.others;
                below = stands.memory;
                means = top_means f c' tables' reads stands;
                whole_means = built_means f c' tables' reads stands;
                stands = stands_with holds c tables c' tables' (whole c.sets f ∷ []) stands.settings stands.count stands.others stands.tells;
                met = counted.0;
                kept = residual_count c.sets holds f (built_means f c' tables' reads stands) counts.1 counted.1;
              },
            )
        read_text c' tables' (Err e) h =
            let t = terms_of c lent size a in
            let done = subst (λ calls. Enough 0 calls → (why : Refusal) × (e.reason ≡ call why)
            × RefusedAt t holds c.count [] calls (number_of why) e.place × SameTray c tables c' tables') planned h (whole_enough c.sets f) in (
              subst (λ reason. RefusedFor numbered size a holds lent room text c reason e.place) (sym done.1) (none, f, reads, done.2),
              done.3,
              stands_still holds c tables c' tables' done.3,
            )
