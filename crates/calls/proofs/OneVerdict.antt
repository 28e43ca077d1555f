-- What a judgement says of a formula settles it, and what it leaves in the buffers.
use Rattle.std.proofs.Common.{◌≡◌, ℕ, List, ◌↔◌, sym, refl}
use Rattle.words.specs.Formulas.{Formula, Satisfies}
use Rattle.words.specs.Meanings.{SameAfter}
use Rattle.words.proofs.Counts.{one_count}
use Rattle.judging.specs.declared.verdict.Judgement.{Judgement}
use Rattle.judging.specs.declared.verdict.Verdict.{Verdict}
use Rattle.judging.specs.declared.verdict.Verdict.TheVariants.{NoSets, SomeSets, AllSets}
use Rattle.calls.specs.Buffers.{Buffers}
use Rattle.calls.specs.Owed.{JudgedFormula}
use Rattle.calls.proofs.Sameness.{after_equality}
use Rattle.calls.proofs.OneWord.{one_word}

-- a verdict that is none exactly when A holds, and all exactly when B does
pub one_verdict : {A B : Type 0} (v w : Verdict) → (v ≡ NoSets) ↔ A → (v ≡ AllSets) ↔ B → (w ≡ NoSets) ↔ A → (w ≡ AllSets) ↔ B → v ≡ w
one_verdict NoSets w none all none' all' = sym (none'.1 (none.0 refl))
one_verdict AllSets w none all none' all' = sym (all'.1 (all.0 refl))
one_verdict SomeSets NoSets none all none' all' = none.1 (none'.0 refl)
one_verdict SomeSets AllSets none all none' all' = all.1 (all'.0 refl)
one_verdict SomeSets SomeSets none all none' all' = refl

module _ (n : ℕ) (holds : ℕ → List ℕ → Type 0) (f : Formula) (old new new' : Buffers) (j k : Judgement)
    (a : JudgedFormula n holds f old new j) (b : JudgedFormula n holds f old new' k)
  where
    words : ((j.witness ≡ k.witness) × (new.witness ≡ new'.witness))
        × ((j.counterexample ≡ k.counterexample) × (new.counterexample ≡ new'.counterexample))
    words = (
      one_word n (Satisfies holds f) old.witness new.witness new'.witness j.witness k.witness a.witness b.witness,
      one_word n (λ w. Satisfies holds f w → ⊥) old.counterexample new.counterexample new'.counterexample j.counterexample k.counterexample
          a.counterexample b.counterexample,
    )

    pub one_judgement : (j ≡ k) × (new.witness ≡ new'.witness) × (new.counterexample ≡ new'.counterexample)
    one_judgement =
        let verdict : j.verdict ≡ k.verdict = one_verdict j.verdict k.verdict a.none a.all b.none b.all in
        let states : j.states ≡ k.states = one_count n (SameAfter n holds f) (after_equality n holds f) j.states k.states a.states b.states in
        let same : j ≡ k = λ i. record { verdict = verdict i; states = states i; witness = words.0.0 i; counterexample = words.1.0 i } in
        (same, words.0.1, words.1.1)
