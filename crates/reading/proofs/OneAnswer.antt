-- One answer is owed to a text.
use Rattle.std.proofs.Common.{◌≡◌, ℕ, List, [], ◌∷◌, Some, None, Option, Ok, Err, Result, unwrap_or, inl, inr, sym, ap, ◌∙◌, subst}
use Rattle.std.proofs.lemmas.Option.{none-some}
use Rattle.words.specs.Automata.{Automaton}
use Rattle.words.specs.Formulas.{Formula}
use Rattle.words.specs.Residuals.{Equality}
use Rattle.words.proofs.Counts.{one_count}
use Rattle.tokens.specs.Items.{items_of}
use Rattle.tray.specs.Refusals.{number_of}
use Rattle.tray.specs.declared.control.Control.{Control}
use Rattle.tray.specs.declared.refusal.Refusal.{Refusal}
use Rattle.calls.specs.Lent.{Lent}
use Rattle.calls.specs.Owed.{Terms}
use Rattle.calls.specs.Pile.{SameMet}
use Rattle.calls.proofs.Failing.{never_both, one_refusal}
use Rattle.calls.proofs.Sameness.{met_equality}
use Rattle.grammar.specs.declared.flaw.Flaw.{Flaw}
use Rattle.grammar.specs.Claims.{Claim}
use Rattle.grammar.specs.Planning.{ReadsAs, text_fault}
use Rattle.grammar.specs.Steps.{Call as Step, all_steps}
use Rattle.grammar.proofs.OneClaim.{one_claim}
use Rattle.reading.specs.Building.{puts, refused_place, checks, AllMade, RefusedAt}
use Rattle.reading.specs.Formulas.{whole}
use Rattle.reading.specs.Judging.{SameEnds}
use Rattle.reading.specs.Meaning.{Satisfied}
use Rattle.reading.specs.Reading.{Builds, RefusedFor, ReadsText}
use Rattle.reading.specs.ReadingLaws.{ReadingLaws}
use Rattle.reading.specs.Stepping.{terms_of}
use Rattle.reading.specs.declared.fault.Fault.{Fault}
use Rattle.reading.specs.declared.fault.Reason.{Reason}
use Rattle.reading.specs.declared.fault.Reason.TheVariants.{Text, Call}

-- ---- one step is refused first, and then not all are made

module _ (t : Terms) (holds : ℕ → List ℕ → Type 0) (below : ℕ) where
  refused_once : (pile : List Formula) (steps : List (ℕ × Step)) (r s : Refusal) (p q : ℕ) → RefusedAt t holds below pile steps (number_of r) p
      → RefusedAt t holds below pile steps (number_of s) q → (r ≡ s) × (p ≡ q)
  refused_once pile [] r s p q x y = absurd x
  refused_once pile (step ∷ steps) r s p q (inl x) (inl y) =
      let same : r ≡ s = one_refusal (checks t holds below pile step.1) r s x.0 y.0 in
      (same, x.1 ∙ ap (λ why. refused_place (number_of why) step.0) same ∙ sym y.1)
  refused_once pile (step ∷ steps) r s p q (inl x) (inr y) = absurd (never_both (checks t holds below pile step.1) (number_of r) y.0 x.0)
  refused_once pile (step ∷ steps) r s p q (inr x) (inl y) = absurd (never_both (checks t holds below pile step.1) (number_of s) x.0 y.0)
  refused_once pile (step ∷ steps) r s p q (inr x) (inr y) = refused_once (puts step.1 pile) steps r s p q x.1 y.1

  not_made : (pile : List Formula) (steps : List (ℕ × Step)) (number at : ℕ) → AllMade t holds below pile steps
      → RefusedAt t holds below pile steps number at → ⊥
  not_made pile [] number at made x = x
  not_made pile (step ∷ steps) number at made (inl x) = never_both (checks t holds below pile step.1) number made.0 x.0
  not_made pile (step ∷ steps) number at made (inr x) = not_made (puts step.1 pile) steps number at made.1 x.1

-- words with the same ends count as one
pub ends_equality : (n : ℕ) (P : List ℕ → Type 0) → Equality (SameEnds n P)
ends_equality n P = record {
  itself = λ u v cv. ((λ x. x), (λ x. x));
  back = λ u w same v cv. ((same v cv).1, (same v cv).0);
  chain = λ u w z first second v cv. (
    (λ x. (second v cv).0 ((first v cv).0 x)),
    (λ x. (first v cv).1 ((second v cv).1 x)),
  );
}

-- ---- of a text

module _ (numbered : List ℕ → Option ℕ) (size : ℕ) (a : ℕ → Automaton) (holds : ℕ → List ℕ → Type 0) (lent : Lent) (room : ℕ) (text : List ℕ) (c : Control) where
  pub same_claim : (f g : Claim) → ReadsAs numbered a c.sets text f → ReadsAs numbered a c.sets text g → f ≡ g
  same_claim f g x y = one_claim (items_of numbered a text) f g x.spells y.spells

  same_flaw : (x y : Flaw × ℕ) → Some x ≡ Some y → x ≡ y
  same_flaw x y e = ap (λ o. unwrap_or o x) e

  one_fault : (r s : Reason) (p q : ℕ) → RefusedFor numbered size a holds lent room text c r p → RefusedFor numbered size a holds lent room text c s q
      → (r ≡ s) × (p ≡ q)
  one_fault (Text f) (Text g) p q x y =
      let same = same_flaw (f, p) (g, q) (sym x ∙ y) in
      (ap (λ (z : Flaw × ℕ). Text z.0) same, ap (λ (z : Flaw × ℕ). z.1) same)
  one_fault (Text f) (Call s) p q x y = absurd (none-some (f, p) (sym y.0 ∙ x))
  one_fault (Call r) (Text g) p q x y = absurd (none-some (g, q) (sym x.0 ∙ y))
  one_fault (Call r) (Call s) p q x y =
      let t : Terms = terms_of c lent size a in
      let moved = subst (λ f. RefusedAt t holds c.count [] (all_steps c.sets f) (number_of s) q) (same_claim y.1 x.1 y.2 x.2) y.3 in
      let same = refused_once t holds c.count [] (all_steps c.sets x.1) r s p q x.3 moved in
      (ap Call same.0, same.1)

  refused_not_made : (r : Reason) (p : ℕ) (f : Claim) → RefusedFor numbered size a holds lent room text c r p → text_fault numbered a c.sets room text ≡ None
      → ReadsAs numbered a c.sets text f → AllMade (terms_of c lent size a) holds c.count [] (all_steps c.sets f) → ⊥
  refused_not_made (Text flaw) p f x none reads made = none-some (flaw, p) (sym none ∙ x)
  refused_not_made (Call why) p f x none reads made =
      let t : Terms = terms_of c lent size a in
      let moved = subst (λ g. AllMade t holds c.count [] (all_steps c.sets g)) (same_claim f x.1 reads x.2) made in
      not_made t holds c.count [] (all_steps c.sets x.1) (number_of why) p moved x.3

  module _ (tables : List ℕ) (c1 : Control) (tables1 : List ℕ) (c2 : Control) (tables2 : List ℕ) where
    one_answer : (r s : Result (ℕ × ℕ) Fault) → ReadsText numbered size a holds lent room text c tables c1 tables1 r
        → ReadsText numbered size a holds lent room text c tables c2 tables2 s → r ≡ s
    one_answer (Ok j) (Ok k) x y =
        let f : Claim = x.1 in
        let other = subst (λ g. Builds numbered size a holds lent text g c tables c2 tables2 k) (same_claim y.1 f y.2.reads x.2.reads) y.2 in
        let Met = SameMet c.sets a holds (whole c.sets f) in
        let Kept = SameEnds c.sets (Satisfied holds f) in
        let met : j.0 ≡ k.0 = one_count c.sets Met (met_equality c.sets a holds (whole c.sets f)) j.0 k.0 x.2.met other.met in
        let kept : j.1 ≡ k.1 = one_count c.sets Kept (ends_equality c.sets (Satisfied holds f)) j.1 k.1 x.2.kept other.kept in
        λ i. Ok (met i, kept i)
    one_answer (Ok j) (Err e) x y = absurd (refused_not_made e.reason e.place x.1 y.0 x.0 x.2.reads x.2.passes)
    one_answer (Err e) (Ok k) x y = absurd (refused_not_made e.reason e.place y.1 x.0 y.0 y.2.reads y.2.passes)
    one_answer (Err d) (Err e) x y =
        let same = one_fault d.reason e.reason d.place e.place x.0 y.0 in
        λ i. Err (record { reason = same.0 i; place = same.1 i })

pub reading_laws : (numbered : List ℕ → Option ℕ) (size : ℕ) (a : ℕ → Automaton) (holds : ℕ → List ℕ → Type 0) → ReadingLaws numbered size a holds
reading_laws numbered size a holds = record {
  one_fault = λ lent room text c. one_fault numbered size a holds lent room text c;
  never_both = λ lent room text c. refused_not_made numbered size a holds lent room text c;
  one_answer = λ lent room text c. one_answer numbered size a holds lent room text c;
}
