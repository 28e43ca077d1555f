-- The laws of runs.
use Rattle.std.proofs.Common.{◌≡◌, ℕ, ◌<◌, ◌≤◌, ◌↔◌, List, subst, ⊎_elim, arith}
use Rattle.std.proofs.lemmas.Bool.{cases_lt}
use Rattle.words.specs.Formulas.{Formula, negation}
use Rattle.words.specs.Meanings.{SameAfter}
use Rattle.words.specs.Residuals.{Equality, Count, MoreThan}
use Rattle.words.proofs.Counts.{one_count, within}
use Rattle.calls.specs.declared.call.Call.TheVariants.{Negate}
use Rattle.calls.specs.declared.call.Reply.TheVariants.{Built}
use Rattle.calls.specs.Owed.{Terms, Desk, Owes}
use Rattle.calls.specs.Pile.{SameMet}
use Rattle.calls.specs.RunLaws.{RunLaws}
use Rattle.calls.proofs.Sameness.{after_equality, met_equality}
use Rattle.calls.proofs.OnePile.{one_top}
use Rattle.calls.proofs.OneReply.{one_reply, one_desk}
use Rattle.calls.proofs.SingleCount.{single_count}

-- a count is more than a bound exactly when it is above it
pub more_than : (n : ℕ) (Same : List ℕ → List ℕ → Type 0) → Equality Same → (bound k : ℕ) → Count n Same k → MoreThan n Same bound ↔ (bound < k)
more_than n Same equal bound k count = (
  (λ more. ⊎_elim (λ l. l) (λ l. absurd (within n Same equal k bound l count more)) (cases_lt bound k)),
  (λ above. record {
    word = count.word;
    columns = λ j h. count.columns j (omega arith);
    different = λ i j hi hj. count.different i j (omega arith) (omega arith);
  }),
)

negate_meets : (t : Terms) (holds : ℕ → List ℕ → Type 0) (d e : Desk) (met kept : ℕ) → Owes t holds d Negate (Built met kept) e → (met ≡ kept) × (met ≤ t.budget)
negate_meets t holds d e met kept x =
    let f : Formula = negation x.2.0 in
    let same : x.3 ≡ f = (one_top e.pile x.3 f x.4 x.2.1 x.5 x.2.3).0 in (
      one_count t.sets (SameAfter t.sets holds f) (after_equality t.sets holds f) met kept
          (subst (λ g. Count t.sets (SameMet t.sets t.automaton holds g) met) same x.6) (subst (λ g. Count t.sets (SameAfter t.sets holds g) kept) same x.7),
      x.8,
    )

pub run_laws : (holds : ℕ → List ℕ → Type 0) → RunLaws holds
run_laws holds = record {
  one_reply = λ t d call r r' e e'. one_reply t holds d call r r' e e';
  one_desk = λ t calls d e e'. one_desk t holds calls d e e';
  exceeds = λ t f met. more_than t.sets (SameMet t.sets t.automaton holds f) (met_equality t.sets t.automaton holds f) t.budget met;
  single_meets = λ t i. single_count t.sets holds i;
  negate_meets = λ t d e. negate_meets t holds d e;
}
