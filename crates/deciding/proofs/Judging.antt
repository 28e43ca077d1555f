-- What is judged of a table is judged of the claim that it tells.
use Rattle.std.proofs.Common.{◌≡◌, ℕ, ◌-◌, ◌≤◌, ◌↔◌, Bool, true, false, List, [], ◌++◌, take, replicate, Some, None, Option, Ok, Err, Result, is_some, Decides, sym, refl, ap, ◌∙◌, subst, inr, arith}
use Rattle.std.proofs.lemmas.Bool.{true≢false}
use Rattle.std.proofs.lemmas.List.{drop-replicate}
use Rattle.std.proofs.lemmas.Bool.Decides.{same_from_decides}
use Rattle.words.specs.Automata.{Automaton}
use Rattle.words.specs.Residuals.{SameResidual, Count}
use Rattle.words.specs.Words.{Columns}
use Rattle.words.proofs.Coding.{columns_append}
use Rattle.words.proofs.Pairing.{count_same}
use Rattle.tokens.specs.Items.{items_of}
use Rattle.judging.specs.Earliest.{Written}
use Rattle.judging.specs.Judged.{Says, Shown, Judged as JudgedWords}
use Rattle.judging.specs.declared.verdict.Verdict.{Verdict}
use Rattle.judging.specs.declared.verdict.Verdict.TheVariants.{NoSets, SomeSets, AllSets}
use Rattle.calls.specs.Lent.{lent_for}
use Rattle.tray.specs.Checks.{AllPass}
use Rattle.tray.specs.View.{says}
use Rattle.tray.specs.declared.control.Control.{Control}
use Rattle.calls.specs.declared.running.Settings.{Settings}
use Rattle.grammar.specs.Claims.{Claim, spelled, Fits}
use Rattle.reading.specs.Judging.{SameEnds, Shows, JudgedClaim}
use Rattle.reading.specs.Meaning.{Meaning, Satisfied}
use Rattle.reading.specs.Reading.{RefusedFor, ReadsText}
use Rattle.reading.specs.declared.fault.Fault.{Fault}
use Rattle.reading.specs.declared.fault.Reason.{Reason}
use Rattle.reading.specs.declared.fault.Reason.TheVariants.{Text, Call}
use Rattle.reading.proofs.MeaningLaws.{meaning_laws}
use Rattle.reading.proofs.Whole.{most_is}
use Rattle.deciding.specs.Answers.{opening, opened, StandsAlone, JudgesOn, JudgesText, JudgesTop, Judges}
use Rattle.deciding.specs.Printed.{word_at}
use Rattle.deciding.specs.declared.answer.Judged.{Judged}

-- ---- a test that decides whether a word serves

module _ (n : ℕ) (P : List ℕ → Type 0) (L : List ℕ → Bool) (decides : (w : List ℕ) → Columns n w → Decides (L w) (P w)) where
  ends_of : (u w : List ℕ) → Columns n u → Columns n w → SameResidual n L u w → SameEnds n P u w
  ends_of u w cu cw same v cv =
      let a = decides (u ++ v) (columns_append n u v cu cv) in
      let b = decides (w ++ v) (columns_append n w v cw cv) in
      ((λ h. b.0 (sym (same v cv) ∙ a.1 h)), (λ h. a.0 (same v cv ∙ b.1 h)))

  of_ends : (u w : List ℕ) → Columns n u → Columns n w → SameEnds n P u w → SameResidual n L u w
  of_ends u w cu cw same v cv =
      let a = decides (u ++ v) (columns_append n u v cu cv) in
      same_from_decides (L (u ++ v)) (L (w ++ v)) ((λ e. (same v cv).0 (a.0 e)), (λ h. a.1 ((same v cv).1 h))) (decides (w ++ v) (columns_append n w v cw cv))

  residuals : (k : ℕ) → Count n (SameResidual n L) k → Count n (SameEnds n P) k
  residuals k = count_same n (SameResidual n L) (SameEnds n P) k ends_of of_ends

  false_unless : (w : List ℕ) → Columns n w → (P w → ⊥) → L w ≡ false
  false_unless w cw none = go (L w) (decides w cw).0
    where
      go : (b : Bool) → (b ≡ true → P w) → b ≡ false
      go true holds = absurd (none (holds refl))
      go false holds = refl

  fails : (w : List ℕ) → Columns n w → L w ≡ false → P w → ⊥
  fails w cw e h = true≢false (sym ((decides w cw).1 h) ∙ e)

-- ---- the earliest words

shows_of : (n : ℕ) (P Q : List ℕ → Type 0) → ((w : List ℕ) → Columns n w → P w → Q w) → ((w : List ℕ) → Columns n w → Q w → P w)
    → (old new : List ℕ) (k : Option ℕ) → Written n P old new k → Shows n Q (word_at new k)
shows_of n P Q to from old new (Some k) h =
    let e = h.2 in
    record { columns = e.columns; serves = to (take k new) e.columns e.serves; least = λ v cv q. e.least v cv (from v cv q) }
shows_of n P Q to from old new None h = λ w cw q. h.0 w cw (from w cw q)

-- a word that was written over zeros stands alone
alone : (n : ℕ) (P : List ℕ → Type 0) (new : List ℕ) (k : Option ℕ) → Written n P (replicate 512 0) new k → StandsAlone new k
alone n P new (Some k) h = (subst (λ l. k ≤ l) (sym h.1) h.0, h.3 ∙ drop-replicate k 512 0)
alone n P new None h = h.1

shown_word : (buffer : List ℕ) (k : Option ℕ) → is_some (word_at buffer k) ≡ is_some k
shown_word buffer (Some k) = refl
shown_word buffer None = refl

-- ---- verdicts

code : Verdict → ℕ
code NoSets = 0
code SomeSets = 1
code AllSets = 2

absent_witness : (v : Verdict) (w x : Option ℕ) → Shown v w x → (is_some w ≡ false) ↔ (v ≡ NoSets)
unfolding code
absent_witness NoSets w x s = ((λ e. refl), (λ e. s.0))
absent_witness SomeSets w x s = ((λ e. absurd (true≢false (sym s.0 ∙ e))), (λ e. absurd (omega (arith, ap code e))))
absent_witness AllSets w x s = ((λ e. absurd (true≢false (sym s.0 ∙ e))), (λ e. absurd (omega (arith, ap code e))))

absent_counterexample : (v : Verdict) (w x : Option ℕ) → Shown v w x → (is_some x ≡ false) ↔ (v ≡ AllSets)
unfolding code
absent_counterexample NoSets w x s = ((λ e. absurd (true≢false (sym s.1 ∙ e))), (λ e. absurd (omega (arith, ap code e))))
absent_counterexample SomeSets w x s = ((λ e. absurd (true≢false (sym s.1 ∙ e))), (λ e. absurd (omega (arith, ap code e))))
absent_counterexample AllSets w x s = ((λ e. refl), (λ e. s.1))

-- no word serves where nothing makes the claim true, and the other way round
module _ (n : ℕ) (P : List ℕ → Type 0) (M : Type 0) (L : List ℕ → Bool) (decides : (w : List ℕ) → Columns n w → Decides (L w) (P w))
    (to : (w : List ℕ) → Columns n w → P w → M) (from : M → (w : List ℕ) × Columns n w × P w)
  where
    says_none : (v : Verdict) → Says n L v → (v ≡ NoSets) ↔ (M → ⊥)
    unfolding code
    says_none NoSets s = ((λ e m. let w = from m in fails n P L decides w.0 w.1 (s w.0 w.1) w.2), (λ h. refl))
    says_none SomeSets s = ((λ e. absurd (omega (arith, ap code e))), (λ h. absurd (h (to s.0.0 s.0.1 ((decides s.0.0 s.0.1).0 s.0.2)))))
    says_none AllSets s = ((λ e. absurd (omega (arith, ap code e))), (λ h. absurd (h (to [] tt ((decides [] tt).0 (s [] tt))))))

    says_all : (v : Verdict) → Says n L v → (v ≡ AllSets) ↔ ((w : List ℕ) → Columns n w → P w)
    unfolding code
    says_all NoSets s = ((λ e. absurd (omega (arith, ap code e))), (λ h. absurd (fails n P L decides [] tt (s [] tt) (h [] tt))))
    says_all SomeSets s = ((λ e. absurd (omega (arith, ap code e))), (λ h. absurd (fails n P L decides s.1.0 s.1.1 s.1.2 (h s.1.0 s.1.1))))
    says_all AllSets s = ((λ e w cw. (decides w cw).0 (s w cw)), (λ h. refl))

-- some word codes what makes a claim true
module _ (numbered : List ℕ → Option ℕ) (a : ℕ → Automaton) (holds : ℕ → List ℕ → Type 0) (n : ℕ) (text : List ℕ) (f : Claim)
    (spells : items_of numbered a text ≡ spelled f []) (fits : Fits n 0 f)
  where
    Made : Type 0
    Made = (v : ℕ → ℕ) × Meaning holds f v

    word_of : Made → (w : List ℕ) × Columns n w × Satisfied holds f w
    unfolding Made
    word_of m =
        let w = meaning_laws.some_word numbered a n text f m.0 spells fits in
        (w.0, w.1, (m.0, w.2, m.1))

    made_of : (w : List ℕ) → Columns n w → Satisfied holds f w → Made
    unfolding Made
    made_of w cw s = (s.0, s.2)

    judged_claim : (L : List ℕ → Bool) → ((w : List ℕ) → Columns n w → Decides (L w) (Satisfied holds f w)) → (met missed : List ℕ) (j : Judged)
        → JudgedWords n L met missed j.witness j.counterexample j.judgement
        → JudgedClaim n holds f j.judgement.verdict j.judgement.states (word_at j.witness j.judgement.witness)
        (word_at j.counterexample j.judgement.counterexample)
    unfolding Made
    judged_claim L decides met missed j h =
        let P = Satisfied holds f in
        let none = says_none n P Made L decides made_of word_of j.judgement.verdict h.verdict in
        let witness = absent_witness j.judgement.verdict j.judgement.witness j.judgement.counterexample h.shown in
        let counterexample = absent_counterexample j.judgement.verdict j.judgement.witness j.judgement.counterexample h.shown in
        record {
          none = ((λ e v m. none.0 e (v, m)), (λ h. none.1 (λ m. h m.0 m.1)));
          all = says_all n P Made L decides made_of word_of j.judgement.verdict h.verdict;
          residuals = residuals n P L decides j.judgement.states h.states;
          satisfies = shows_of n (λ w. L w ≡ true) P (λ w cw. (decides w cw).0) (λ w cw. (decides w cw).1) met j.witness j.judgement.witness h.witness;
          fails = shows_of n (λ w. L w ≡ false) (λ w. P w → ⊥) (fails n P L decides) (false_unless n P L decides) missed j.counterexample
              j.judgement.counterexample h.counterexample;
          no_witness = (
            (λ e. witness.0 (sym (shown_word j.witness j.judgement.witness) ∙ e)),
            (λ e. shown_word j.witness j.judgement.witness ∙ witness.1 e),
          );
          no_counterexample = (
            (λ e. counterexample.0 (sym (shown_word j.counterexample j.judgement.counterexample) ∙ e)),
            (λ e. shown_word j.counterexample j.judgement.counterexample ∙ counterexample.1 e),
          );
        }

    pub claim_judged : (L : List ℕ → Bool) → ((w : List ℕ) → Columns n w → Decides (L w) (Satisfied holds f w)) → (j : Judged)
        → JudgedWords n L (replicate 512 0) (replicate 512 0) j.witness j.counterexample j.judgement → Judges n holds f j
    claim_judged L decides j h = record {
      claim = judged_claim L decides (replicate 512 0) (replicate 512 0) j h;
      witness = alone n (λ w. L w ≡ true) j.witness j.judgement.witness h.witness;
      counterexample = alone n (λ w. L w ≡ false) j.counterexample j.judgement.counterexample h.counterexample;
    }

-- ---- after reading a text

module _ (numbered : List ℕ → Option ℕ) (size : ℕ) (a : ℕ → Automaton) (holds : ℕ → List ℕ → Type 0) (text : List ℕ) (c : Control) (tables : List ℕ)
    (c' : Control) (tables' : List ℕ) (few : c.sets ≤ 8) (counts : ℕ × ℕ)
  where
    pub judges_on : ReadsText numbered size a holds (lent_for 64) 3088 text c tables c' tables' (Ok counts) → (r : Result Judged Fault) → JudgesTop c' tables' r
        → JudgesOn numbered size a holds text c r
    judges_on read (Err e) h = absurd h
    judges_on read (Ok j) h =
        let f : Claim = read.1 in
        let b = read.2 in
        let top : c'.count - 1 ≡ c.count = omega (arith, b.count) in
        let zeros : List ℕ = replicate 512 0 in
        let words : JudgedWords c.sets (says c' tables' c.count) zeros zeros j.witness j.counterexample j.judgement =
        subst (λ k. JudgedWords c.sets (says c' tables' k) zeros zeros j.witness j.counterexample j.judgement) top
        (subst (λ n. JudgedWords n (says c' tables' (c'.count - 1)) zeros zeros j.witness j.counterexample j.judgement) b.settings.sets h) in (
          read.0,
          f,
          b.reads,
          b.passes,
          claim_judged numbered a holds c.sets text f b.reads.spells (subst (λ n. Fits n 0 f) (most_is c.sets few) b.reads.fits) (says c' tables' c.count)
              b.means j words,
        )

-- ---- on a tray that was just opened

-- what is said of a text on one tray holds on every tray with the same settings and as many tables
module _ (numbered : List ℕ → Option ℕ) (size : ℕ) (a : ℕ → Automaton) (holds : ℕ → List ℕ → Type 0) (text : List ℕ) (s : Settings) (c : Control)
    (sets : c.sets ≡ s.sets) (budget : c.budget ≡ s.budget) (depth : c.depth ≡ s.depth) (none : c.count ≡ 0)
  where
    same : record { sets = c.sets; budget = c.budget; depth = c.depth; count = c.count; sizes = replicate 16 0 } ≡ opened s
    same = λ i. record { sets = sets i; budget = budget i; depth = depth i; count = none i; sizes = replicate 16 0 }

    refused_newly : (r : Reason) (p : ℕ) → RefusedFor numbered size a holds (lent_for 64) 3088 text c r p → RefusedFor numbered size a holds (lent_for 64) 3088 text (opened s) r p
    refused_newly (Text flaw) p h = subst (λ d. RefusedFor numbered size a holds (lent_for 64) 3088 text d (Text flaw) p) same h
    refused_newly (Call why) p h = subst (λ d. RefusedFor numbered size a holds (lent_for 64) 3088 text d (Call why) p) same h

    pub judges_newly : (r : Result Judged Fault) → JudgesOn numbered size a holds text c r → JudgesOn numbered size a holds text (opened s) r
    judges_newly (Ok j) h = subst (λ d. JudgesOn numbered size a holds text d (Ok j)) same h
    judges_newly (Err e) h = refused_newly e.reason e.place h

    pub judges_text : (r : Result Judged Fault) → AllPass (opening s) → JudgesOn numbered size a holds text c r → JudgesText numbered size a holds s text r
    judges_text (Ok j) passes h = (passes, judges_newly (Ok j) h)
    judges_text (Err e) passes h = inr (passes, judges_newly (Err e) h)
