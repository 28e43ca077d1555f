-- One judgement is owed of a claim, and with it the bytes of its words.
use Rattle.std.proofs.Common.{◌≡◌, ℕ, ◌-◌, List, length, take, replicate, Some, None, Option, sym, refl, ap, ◌∙◌}
use Rattle.std.proofs.lemmas.List.{length-take-le}
use Rattle.words.proofs.Counts.{one_count}
use Rattle.calls.proofs.OneVerdict.{one_verdict}
use Rattle.calls.proofs.OneWord.{one_earliest, halves}
use Rattle.grammar.specs.Claims.{Claim}
use Rattle.reading.specs.Judging.{SameEnds, Shows}
use Rattle.reading.specs.Meaning.{Satisfied}
use Rattle.reading.proofs.OneAnswer.{ends_equality}
use Rattle.deciding.specs.Answers.{StandsAlone, Judges}
use Rattle.deciding.specs.Printed.{word_at}
use Rattle.deciding.specs.declared.answer.Judged.{Judged}

module _ (n : ℕ) (Serves : List ℕ → Type 0) where
  -- the earliest word that serves settles its length and the bytes that it stands in
  one_buffer : (b c : List ℕ) (r s : Option ℕ) → Shows n Serves (word_at b r) → Shows n Serves (word_at c s) → StandsAlone b r → StandsAlone c s
      → (r ≡ s) × (b ≡ c)
  one_buffer b c None None x y alone alone' = (refl, alone ∙ sym alone')
  one_buffer b c None (Some k) x y alone alone' = absurd (x (take k c) y.columns y.serves)
  one_buffer b c (Some j) None x y alone alone' = absurd (y (take j b) x.columns x.serves)
  one_buffer b c (Some j) (Some k) x y alone alone' =
      let word : take j b ≡ take k c = one_earliest n Serves (take j b) (take k c) x y in
      let same : j ≡ k = sym (length-take-le j b alone.0) ∙ ap length word ∙ length-take-le k c alone'.0 in
      (ap Some same, halves j k b c word (alone.1 ∙ ap (λ l. replicate (512 - l) 0) same ∙ sym alone'.1))

module _ (n : ℕ) (holds : ℕ → List ℕ → Type 0) (f : Claim) (j k : Judged) (a : Judges n holds f j) (b : Judges n holds f k) where
  pub one_judgement : j ≡ k
  one_judgement =
      let met = one_buffer n (Satisfied holds f) j.witness k.witness j.judgement.witness k.judgement.witness a.claim.satisfies b.claim.satisfies a.witness b.witness in
      let missed = one_buffer n (λ w. Satisfied holds f w → ⊥) j.counterexample k.counterexample j.judgement.counterexample k.judgement.counterexample
      a.claim.fails b.claim.fails a.counterexample b.counterexample in
      let verdict = one_verdict j.judgement.verdict k.judgement.verdict a.claim.none a.claim.all b.claim.none b.claim.all in
      let states = one_count n (SameEnds n (Satisfied holds f)) (ends_equality n (Satisfied holds f)) j.judgement.states k.judgement.states
      a.claim.residuals b.claim.residuals in
      let judgement : j.judgement ≡ k.judgement = λ i. record { verdict = verdict i; states = states i; witness = met.0 i; counterexample = missed.0 i } in
      λ i. record { judgement = judgement i; witness = met.1 i; counterexample = missed.1 i }
