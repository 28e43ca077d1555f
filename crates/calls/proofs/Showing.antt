-- Save and judge, which show the top of the pile.
use Rattle.std.proofs.Common.{◌≡◌, ℕ, ◌-◌, ◌<◌, Bool, List, [], ◌∷◌, ◌++◌, length, Ok, Err, Result, refl, sym, subst, arith}
use Rattle.words.specs.Automata.{Automaton}
use Rattle.words.specs.Formulas.{Formula}
use Rattle.judging.specs.declared.verdict.Judgement.{Judgement}
use Rattle.tray.specs.Calls.{SavesTop, JudgesTop, fewer_than, judge_checks, top_text}
use Rattle.tray.specs.Checks.{FirstFailed, AllPass}
use Rattle.tray.specs.Refusals.{number_of}
use Rattle.tray.specs.View.{size_of, rows_of, says}
use Rattle.tray.specs.declared.control.Control.{Control}
use Rattle.tray.specs.declared.refusal.Refusal.{Refusal}
use Rattle.calls.specs.declared.call.Call.TheVariants.{Save, Judge}
use Rattle.calls.specs.Buffers.{Buffers}
use Rattle.calls.specs.Lent.{Lent}
use Rattle.calls.specs.Making.{TopTable}
use Rattle.calls.specs.Owed.{FormulaText, too_long}
use Rattle.calls.specs.Promise.{StandsFor}
use Rattle.calls.specs.Replies.{saved, judged}
use Rattle.calls.proofs.Checking.{last_fails, last_passes}
use Rattle.calls.proofs.EachCall.{top_names, top_tells}
use Rattle.calls.proofs.Meaning.{judged_formula}
use Rattle.calls.proofs.OnePile.{one_top}
use Rattle.calls.proofs.OneText.{one_text}
use Rattle.calls.proofs.Standing.{going}
use Rattle.calls.proofs.Stepping.{Steps, refused_step}

-- buffers are the same when each of them is
buffers_same : (b b' : Buffers) → b'.witness ≡ b.witness → b'.counterexample ≡ b.counterexample → b'.text ≡ b.text → b' ≡ b
buffers_same b b' ew ec et =
    subst (λ w. b' ≡ record { witness = w; counterexample = b.counterexample; text = b.text }) ew
    (subst (λ x. b' ≡ record { witness = b'.witness; counterexample = x; text = b.text }) ec
    (subst (λ x. b' ≡ record { witness = b'.witness; counterexample = b'.counterexample; text = x }) et refl))

-- the checks of save before the last one
abbrev wide_or_few : ℕ → ℕ → List (ℕ × Type 0)
wide_or_few n count = (20, 4 < n) ∷ fewer_than 1 count ∷ []

module _ (lent : Lent) (size : ℕ) (a : ℕ → Automaton) (holds : ℕ → List ℕ → Type 0) (buffers buffers' : Buffers) (c : Control) (tables : List ℕ) where
  -- ---- save

  module _ (f : Formula) (rest : List Formula) (stands : StandsFor holds c tables (f ∷ rest)) (table : TopTable c tables) where
    text_on_top : FormulaText c.sets holds f (top_text c tables)
    text_on_top =
        let top : ℕ = c.count - 1 in
        let L : List ℕ → Bool = says c tables top in (
          rows_of c tables top,
          size_of c top,
          (L, top_tells c.sets holds (says c tables) f rest stands.tells top (omega (arith, stands.count)), table (omega (arith, stands.count))),
          refl,
        )

    shorter_to : length buffers.text < length (top_text c tables) → (g : Formula) × (others : List Formula) × (text : List ℕ) × (f ∷ rest ≡ g ∷ others)
        × FormulaText c.sets holds g text × (length buffers.text < length text)
    shorter_to l = (f, rest, top_text c tables, refl, text_on_top, l)

    shorter_from : (g : Formula) × (others : List Formula) × (text : List ℕ) × (f ∷ rest ≡ g ∷ others)
        × FormulaText c.sets holds g text × (length buffers.text < length text) → length buffers.text < length (top_text c tables)
    shorter_from x =
        let is = one_top (f ∷ rest) x.0 f x.1 rest x.3 refl in
        let text = subst (λ g. FormulaText c.sets holds g x.2) is.0 x.4 in
        subst (λ s. length buffers.text < length s) (one_text c.sets holds f x.2 (top_text c tables) text text_on_top) x.5

  module _ (ew : buffers'.witness ≡ buffers.witness) (ec : buffers'.counterexample ≡ buffers.counterexample) where
    refused_save : (pile : List Formula) → StandsFor holds c tables pile → (why : Refusal)
        → FirstFailed (wide_or_few c.sets (length pile) ++ (too_long (going c lent size a) holds pile buffers.text ∷ [])) (number_of why)
        → buffers'.text ≡ buffers.text
        → Steps (going c lent size a) holds pile buffers Save (saved (Err why)) c c tables buffers'
    refused_save pile stands why failed et =
        subst (λ b. Steps (going c lent size a) holds pile buffers Save (saved (Err why)) c c tables b) (sym (buffers_same buffers buffers' ew ec et))
        (refused_step (going c lent size a) holds pile buffers Save c tables c tables stands why failed refl refl)

    pub save_step : (pile : List Formula) → StandsFor holds c tables pile → TopTable c tables → (r : Result ℕ Refusal)
        → SavesTop c tables buffers.text buffers'.text r → Steps (going c lent size a) holds pile buffers Save (saved r) c c tables buffers'
    save_step [] stands table (Err why) h =
        let few : AllPass (wide_or_few c.sets c.count) → ⊥ = λ pass. pass.1.0 (omega (arith, stands.count)) in
        refused_save [] stands why
        (subst (λ k. FirstFailed (wide_or_few c.sets k ++ (too_long (going c lent size a) holds [] buffers.text ∷ [])) (number_of why)) stands.count
        (last_fails (wide_or_few c.sets c.count) 8 (length buffers.text < length (top_text c tables)) _ (number_of why) (λ p. absurd (few p)) (λ p. absurd (few p)) h.0))
        h.1
    save_step (f ∷ rest) stands table (Err why) h =
        refused_save (f ∷ rest) stands why
        (subst (λ k. FirstFailed (wide_or_few c.sets k ++ (too_long (going c lent size a) holds (f ∷ rest) buffers.text ∷ [])) (number_of why)) stands.count
        (last_fails (wide_or_few c.sets c.count) 8 (length buffers.text < length (top_text c tables)) _ (number_of why)
        (λ p. shorter_to f rest stands table) (λ p. shorter_from f rest stands table) h.0))
        h.1
    save_step [] stands table (Ok bytes) h = absurd (h.0.1.0 (omega (arith, stands.count)))
    save_step (f ∷ rest) stands table (Ok bytes) h = (
      f ∷ rest,
      (
        subst (λ k. AllPass (wide_or_few c.sets k ++ (too_long (going c lent size a) holds (f ∷ rest) buffers.text ∷ []))) stands.count
            (last_passes (wide_or_few c.sets c.count) 8 (length buffers.text < length (top_text c tables)) _ (λ p. shorter_from f rest stands table) h.0),
        refl,
        refl,
        ew,
        ec,
        f,
        rest,
        top_text c tables,
        refl,
        text_on_top f rest stands table,
        h.1,
      ),
      refl,
      stands,
    )

  -- ---- judge

  module _ (et : buffers'.text ≡ buffers.text) where
    pub judge_step : (pile : List Formula) → StandsFor holds c tables pile → (r : Result Judgement Refusal)
        → JudgesTop c tables buffers.witness buffers.counterexample buffers'.witness buffers'.counterexample r
        → Steps (going c lent size a) holds pile buffers Judge (judged r) c c tables buffers'
    judge_step pile stands (Err why) h =
        subst (λ b. Steps (going c lent size a) holds pile buffers Judge (judged (Err why)) c c tables b) (sym (buffers_same buffers buffers' h.1 h.2 et))
        (refused_step (going c lent size a) holds pile buffers Judge c tables c tables stands why
        (subst (λ k. FirstFailed (judge_checks c.budget k (length buffers.witness) (length buffers.counterexample)) (number_of why)) stands.count h.0) refl refl)
    judge_step [] stands (Ok j) h = absurd (h.0.1.0 (omega (arith, stands.count)))
    judge_step (f ∷ rest) stands (Ok j) h =
        let n : ℕ = c.sets in
        let top : ℕ = c.count - 1 in (
          f ∷ rest,
          (
            subst (λ k. AllPass (judge_checks c.budget k (length buffers.witness) (length buffers.counterexample))) stands.count h.0,
            refl,
            refl,
            et,
            f,
            rest,
            refl,
            judged_formula n holds f (says c tables top) (top_names n holds (says c tables) f rest stands.tells)
                (top_tells n holds (says c tables) f rest stands.tells top (omega (arith, stands.count))) buffers buffers' j h.1,
          ),
          refl,
          stands,
        )
