-- One reply is owed to a call, and one desk is left.
use Rattle.std.proofs.Common.{◌≡◌, ℕ, ◌⊎◌, List, [], ◌∷◌, length, drop, sym, refl, ap, ◌∙◌, subst, ap₂, inl, inr, arith}
use Rattle.words.specs.Formulas.{Formula}
use Rattle.words.specs.Meanings.{SameAfter}
use Rattle.words.specs.Residuals.{Count}
use Rattle.words.proofs.Counts.{one_count}
use Rattle.judging.specs.declared.verdict.Judgement.{Judgement}
use Rattle.tray.specs.Checks.{FirstFailed, AllPass}
use Rattle.tray.specs.Refusals.{number_of}
use Rattle.calls.specs.declared.call.Call.{Call}
use Rattle.calls.specs.declared.call.Call.TheVariants.{Drop, Save, Judge}
use Rattle.calls.specs.declared.call.Reply.{Reply}
use Rattle.calls.specs.declared.call.Reply.TheVariants.{Refused, Built, Dropped, Saved, Judged}
use Rattle.calls.specs.Buffers.{Buffers}
use Rattle.calls.specs.Pile.{Becomes, SameMet}
use Rattle.calls.specs.Owed.{Terms, Desk, FormulaText, JudgedFormula, checks, Owes, Fed}
use Rattle.calls.proofs.Sameness.{after_equality, met_equality}
use Rattle.calls.proofs.Failing.{never_both, one_refusal}
use Rattle.calls.proofs.OneWord.{halves}
use Rattle.calls.proofs.OnePile.{one_pile, one_top}
use Rattle.calls.proofs.OneText.{one_text}
use Rattle.calls.proofs.OneVerdict.{one_judgement}

-- desks with the same pile and the same buffers are the same
same_desk : (d e : Desk) → d.pile ≡ e.pile → d.buffers ≡ e.buffers → d ≡ e
same_desk d e pile buffers i = record { pile = pile i; buffers = buffers i }

same_buffers : (b c : Buffers) → b.witness ≡ c.witness → b.counterexample ≡ c.counterexample → b.text ≡ c.text → b ≡ c
same_buffers b c witness counterexample text i = record { witness = witness i; counterexample = counterexample i; text = text i }

-- ---- kinds of replies

-- a number for each kind, and for the kind of reply that is owed where every check passes
abbrev kind : Reply → ℕ
kind (Refused why) = 0
kind (Built met kept) = 1
kind Dropped = 2
kind (Saved bytes) = 3
kind (Judged j) = 4

abbrev kind_owed : Call → ℕ
kind_owed Drop = 2
kind_owed Save = 3
kind_owed Judge = 4
kind_owed _ = 1

builds : (pile : List Formula) (call : Call) (pile' : List Formula) → Becomes pile call pile' → 1 ≡ kind_owed call
builds pile Drop pile' x = absurd x
builds pile Save pile' x = absurd x
builds pile Judge pile' x = absurd x
builds pile _ pile' x = refl

module _ (t : Terms) (holds : ℕ → List ℕ → Type 0) (d : Desk) (call : Call) where
  -- a check fails and the reply is a refusal, or all pass and the reply is of the call's kind
  abbrev Settled : Reply → Type 0
  Settled r = ((k : ℕ) × FirstFailed (checks t holds d call) k × (kind r ≡ 0)) ⊎ (AllPass (checks t holds d call) × (kind r ≡ kind_owed call))

  settles : (r : Reply) (e : Desk) → Owes t holds d call r e → Settled r
  settles (Refused why) e x = inl (number_of why, x.0, refl)
  settles (Built met kept) e x = inr (x.0, builds d.pile call e.pile x.2)
  settles Dropped e x = inr (x.0, sym (ap kind_owed x.2))
  settles (Saved bytes) e x = inr (x.0, sym (ap kind_owed x.2))
  settles (Judged j) e x = inr (x.0, sym (ap kind_owed x.2))

  one_kind : (r r' : Reply) → Settled r → Settled r' → kind r ≡ kind r'
  one_kind r r' (inl x) (inl y) = x.2 ∙ sym y.2
  one_kind r r' (inl x) (inr y) = absurd (never_both (checks t holds d call) x.0 y.0 x.1)
  one_kind r r' (inr x) (inl y) = absurd (never_both (checks t holds d call) y.0 x.0 y.1)
  one_kind r r' (inr x) (inr y) = x.1 ∙ sym y.1

  -- ---- each kind

  one_built : (met kept met' kept' : ℕ) (e e' : Desk) → Owes t holds d call (Built met kept) e → Owes t holds d call (Built met' kept') e'
      → (Built met kept ≡ Built met' kept') × (e ≡ e')
  one_built met kept met' kept' e e' x y =
      let n : ℕ = t.sets in
      let f : Formula = x.3 in
      let pile : e.pile ≡ e'.pile = one_pile d.pile call e.pile e'.pile x.2 y.2 in
      let same : y.3 ≡ f = (one_top e'.pile y.3 f y.4 x.4 y.5 (sym pile ∙ x.5)).0 in
      let one_met : met ≡ met' = one_count n (SameMet n t.automaton holds f) (met_equality n t.automaton holds f) met met' x.6
      (subst (λ g. Count n (SameMet n t.automaton holds g) met') same y.6) in
      let one_kept : kept ≡ kept' = one_count n (SameAfter n holds f) (after_equality n holds f) kept kept' x.7
      (subst (λ g. Count n (SameAfter n holds g) kept') same y.7) in
      (ap₂ Built one_met one_kept, same_desk e e' pile (x.1 ∙ sym y.1))

  one_dropped : (e e' : Desk) → Owes t holds d call Dropped e → Owes t holds d call Dropped e' → e ≡ e'
  one_dropped e e' x y = same_desk e e' (one_top d.pile x.3 y.3 e.pile e'.pile x.4 y.4).1 (x.1 ∙ sym y.1)

  one_saved : (bytes bytes' : ℕ) (e e' : Desk) → Owes t holds d call (Saved bytes) e → Owes t holds d call (Saved bytes') e'
      → (Saved bytes ≡ Saved bytes') × (e ≡ e')
  one_saved bytes bytes' e e' x y =
      let same : y.5 ≡ x.5 = (one_top d.pile y.5 x.5 y.6 x.6 y.8 x.8).0 in
      let text : x.7 ≡ y.7 = one_text t.sets holds x.5 x.7 y.7 x.9 (subst (λ f. FormulaText t.sets holds f y.7) same y.9) in
      let long : bytes ≡ bytes' = x.10.0 ∙ ap length text ∙ sym y.10.0 in
      let buffer : e.buffers.text ≡ e'.buffers.text = halves bytes bytes' e.buffers.text e'.buffers.text
      (x.10.2 ∙ text ∙ sym y.10.2) (x.10.3 ∙ ap (λ k. drop k d.buffers.text) long ∙ sym y.10.3) in
      (ap Saved long, same_desk e e' (x.1 ∙ sym y.1) (same_buffers e.buffers e'.buffers (x.3 ∙ sym y.3) (x.4 ∙ sym y.4) buffer))

  one_judged : (j k : Judgement) (e e' : Desk) → Owes t holds d call (Judged j) e → Owes t holds d call (Judged k) e'
      → (Judged j ≡ Judged k) × (e ≡ e')
  one_judged j k e e' x y =
      let same : y.4 ≡ x.4 = (one_top d.pile y.4 x.4 y.5 x.5 y.6 x.6).0 in
      let one = one_judgement t.sets holds x.4 d.buffers e.buffers e'.buffers j k x.7
      (subst (λ f. JudgedFormula t.sets holds f d.buffers e'.buffers k) same y.7) in
      (ap Judged one.0, same_desk e e' (x.1 ∙ sym y.1) (same_buffers e.buffers e'.buffers one.1 one.2 (x.3 ∙ sym y.3)))

  pub one_reply : (r r' : Reply) (e e' : Desk) → Owes t holds d call r e → Owes t holds d call r' e' → (r ≡ r') × (e ≡ e')
  one_reply (Refused why) (Refused other) e e' x y = (ap Refused (one_refusal (checks t holds d call) why other x.0 y.0), x.1 ∙ sym y.1)
  one_reply (Built met kept) (Built met' kept') e e' x y = one_built met kept met' kept' e e' x y
  one_reply Dropped Dropped e e' x y = (refl, one_dropped e e' x y)
  one_reply (Saved bytes) (Saved bytes') e e' x y = one_saved bytes bytes' e e' x y
  one_reply (Judged j) (Judged k) e e' x y = one_judged j k e e' x y
  one_reply r r' e e' x y = let same = one_kind r r' (settles r e x) (settles r' e' y) in absurd (omega arith)

-- calls feed one desk
pub one_desk : (t : Terms) (holds : ℕ → List ℕ → Type 0) (calls : List Call) (d e e' : Desk) → Fed t holds d calls e → Fed t holds d calls e' → e ≡ e'
one_desk t holds [] d e e' x y = x ∙ sym y
one_desk t holds (call ∷ calls) d e e' x y =
    let same : y.0 ≡ x.0 = (one_reply t holds d call y.1.0 x.1.0 y.0 x.0 y.1.1 x.1.1).1 in
    one_desk t holds calls x.0 e e' x.2 (subst (λ z. Fed t holds z calls e') same y.2)
