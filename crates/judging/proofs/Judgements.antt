-- The first word of the lowest state with an answer is the earliest word with that answer; and the verdict that follows.
use Rattle.std.proofs.Common.{◌≡◌, ℕ, ◌-◌, ◌<◌, ◌≤◌, Bool, true, false, ◌⊎◌, List, [], length, take, drop, Some, None, Option, sym, refl, ap, ◌∙◌, subst, inl, inr, arith}
use Rattle.std.proofs.lemmas.Bool.{cases_order, false_from_ne_true, true_from_ne_false}
use Rattle.std.proofs.lemmas.Grind.{common_steps}
use Rattle.std.proofs.lemmas.List.{drop-drop}
use Rattle.words.specs.Words.{Columns}
use Rattle.words.specs.Order.{NotLater}
use Rattle.words.specs.Residuals.{SameResidual, Count}
use Rattle.words.specs.declared.rows.Rows.{Rows}
use Rattle.words.proofs.Answering.{accepts_inside}
use Rattle.words.proofs.TableLaws.{table_counts}
use Rattle.words.specs.Described.{described, language_of, IsTable}
use Rattle.judging.specs.Walk.{FirstLong, Spelled}
use Rattle.judging.specs.Earliest.{Earliest, Written}
use Rattle.judging.specs.Judged.{Says, Shown, Judged}
use Rattle.judging.specs.Lowest.{LowestState, WrittenFor, verdict_by}
use Rattle.judging.specs.declared.verdict.Judgement.{Judgement}
use Rattle.words.proofs.FirstWords.{not_later_chain}

-- ---- the earliest word with an answer

module _ (rows : Rows) (t : IsTable rows) (b : Bool) where
  abbrev L : List ℕ → Bool
  L = language_of rows

  -- a state accepts where its first word is in the language
  accepts_is : (s : ℕ) → s < rows.states → (described rows).accepts s ≡ L (t.first s)
  accepts_is s h = accepts_inside rows.places rows.states rows.cells.now s (L (t.first s)) h (t.mark s h)

  -- each word with the answer has a state with it, whose first word is not later
  state_of : (w : List ℕ) → Columns rows.places w → L w ≡ b
      → (s : ℕ) × (s < rows.states) × ((described rows).accepts s ≡ b) × NotLater (t.first s) w
  state_of w cs is =
      let e = t.every w cs in
      let same : L (t.first e.0) ≡ L w = grind (arith, common_steps, e.2 [] tt) in
      (e.0, e.1, accepts_is e.0 e.1 ∙ same ∙ is, e.3)

  pub no_word : LowestState (described rows) b None → (w : List ℕ) → Columns rows.places w → L w ≡ b → ⊥
  no_word none w cs is = let s = state_of w cs is in none s.0 s.1 s.2

  pub earliest_word : (j : ℕ) → LowestState (described rows) b (Some j) → Earliest rows.places (λ w. L w ≡ b) (t.first j)
  earliest_word j low = record {
    columns = t.columns j low.0;
    serves = sym (accepts_is j low.0) ∙ low.1;
    least = λ v cs is. let s = state_of v cs is in not_later_chain (t.first j) (t.first s.0) v (lowest s.0 s.1 s.2 (cases_order j s.0)) s.3;
  }
    where
      lowest : (s : ℕ) → s < rows.states → (described rows).accepts s ≡ b → (j ≡ s) ⊎ ((j < s) ⊎ (s < j)) → NotLater (t.first j) (t.first s)
      lowest s h is (inl e) = inl (ap t.first e)
      lowest s h is (inr (inl l)) = inr (t.ordered j s l h)
      lowest s h is (inr (inr l)) = absurd (low.2 s l is)

-- ---- its word in a buffer

module _ (rows : Rows) (t : IsTable rows) (b : Bool) (buffer : List ℕ) (room : rows.states ≤ length buffer) where
  pub written_none : LowestState (described rows) b None → WrittenFor rows b buffer buffer None
  written_none none = ((refl, refl), (no_word rows t b none, refl))

  pub written_some : (j count : ℕ) (buffer' : List ℕ) → LowestState (described rows) b (Some j) → FirstLong rows j count
      → Spelled rows j count buffer buffer' → length buffer' ≡ length buffer → WrittenFor rows b buffer buffer' (Some count)
  written_some j count buffer' low long spelled same = ((same, further), (short, same, first, spelled.0))
    where
      short : count ≤ length buffer
      short = omega (arith, low.0, long.0)

      further : drop rows.states buffer' ≡ drop rows.states buffer
      further = grind (arith, common_steps, drop-drop (rows.states - count) count buffer', drop-drop (rows.states - count) count buffer, spelled.0, low.0, long.0)

      first : Earliest rows.places (λ w. language_of rows w ≡ b) (take count buffer')
      first =
          subst (Earliest rows.places (λ w. language_of rows w ≡ b)) (sym (spelled.1 t low.0 (long.1 t low.0))) (earliest_word rows t b j low)

-- ---- the verdict

module _ (rows : Rows) (met missed met' missed' : List ℕ) where
  -- what the words that there are say of the table
  abbrev Answered : Bool → List ℕ → List ℕ → Option ℕ → Type 0
  Answered b = Written rows.places (λ w. language_of rows w ≡ b)

  verdict_shown : (w v : Option ℕ) → Answered true met met' w → Answered false missed missed' v
      → Says rows.places (language_of rows) (verdict_by w v) × Shown (verdict_by w v) w v
  verdict_shown None None no-witness no-counterexample = absurd (no-counterexample.0 [] tt (false_from_ne_true (language_of rows []) (no-witness.0 [] tt)))
  verdict_shown None (Some j) no-witness counterexample = ((λ u cs. false_from_ne_true (language_of rows u) (no-witness.0 u cs)), (refl, refl))
  verdict_shown (Some i) None witness no-counterexample = ((λ u cs. true_from_ne_false (language_of rows u) (no-counterexample.0 u cs)), (refl, refl))
  verdict_shown (Some i) (Some j) witness counterexample = (
    ((take i met', witness.2.columns, witness.2.serves), (take j missed', counterexample.2.columns, counterexample.2.serves)),
    (refl, refl),
  )

  pub judged : IsTable rows → (j : Judgement) → j.states ≡ rows.states → j.verdict ≡ verdict_by j.witness j.counterexample
      → Answered true met met' j.witness → Answered false missed missed' j.counterexample
      → Judged rows.places (language_of rows) met missed met' missed' j
  judged t j states verdict witness counterexample =
      let n : ℕ = rows.places in
      let says = verdict_shown j.witness j.counterexample witness counterexample in record {
        verdict = subst (Says n (language_of rows)) (sym verdict) says.0;
        states = subst (Count n (SameResidual n (language_of rows))) (sym states) (table_counts n (language_of rows) rows.cells.now rows.states t);
        witness = witness;
        counterexample = counterexample;
        shown = subst (λ x. Shown x j.witness j.counterexample) (sym verdict) says.1;
      }
