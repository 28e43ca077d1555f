-- Two bound books keep the set rule where each of them does: proofs, used where the bound book gives its rule.
use Rattle.std.specs.Prelude.{ℕ, ◌+◌, ◌-◌, ◌<◌, ◌≤◌, List, refl}
use Rattle.std.proofs.Common.{⊎_elim, arith, nat_lt, sym, subst}
use Rattle.std.proofs.Math.Nat.{min-le_right}
use Rattle.std.proofs.lemmas.Bool.{cases_Bool, cond-true, cond-false, ltb-true, ltb-false}
use Rattle.words.specs.Automata.{Automaton}
use Rattle.books.specs.Rule.{Recognizes, Silent, Absent, SetRule}
use Rattle.books.specs.Bound.{most, count_of, source_of, from, nothing, automaton, holds}
use Rattle.books.specs.declared.bound.Source.{Source}
use Rattle.books.specs.declared.bound.Source.TheVariants.{First, Second, Neither}

-- A fact of number p's source, from that fact of each source that it can have.
at_source : (a p : ℕ) (P : Source → Type 0) → (p < a → P (First p)) → (a ≤ p → p < most → P (Second (p - a))) → (most ≤ p → P Neither)
    → P (source_of a p)
at_source a p P first second neither =
    ⊎_elim
    (λ e. subst P (sym (cond-true (nat_lt p a) _ _ e)) (first (ltb-true p a e)))
    (λ e. subst P (sym (cond-false (nat_lt p a) _ _ e)) (⊎_elim
    (λ f. subst P (sym (cond-true (nat_lt p most) _ _ f)) (second (ltb-false p a e) (ltb-true p most f)))
    (λ f. subst P (sym (cond-false (nat_lt p most) _ _ f)) (neither (ltb-false p most f)))
    (cases_Bool (nat_lt p most))))
    (cases_Bool (nat_lt p a))

nothing_absent : Absent nothing
nothing_absent = record { places = refl; states = refl; start = refl }

nothing_silent : Silent nothing
nothing_silent = record { step = λ s c _. refl; accepts = λ s _. refl }

module _ (a b : ℕ) (first second : ℕ → Automaton) (means follows : ℕ → List ℕ → Type 0)
    (one : SetRule a first means) (two : SetRule b second follows) where
  recognizes : (p : ℕ) → p < count_of a b → Recognizes (automaton a first second p) (holds a means follows p)
  recognizes p below =
      at_source a p (λ source. Recognizes (from first second nothing source) (from means follows (λ _. ⊥) source))
      (λ h. one.recognizes p h)
      (λ h _. two.recognizes (p - a) (omega (arith, below, h)))
      (λ h. absurd (omega (arith, below, h)))

  absent : (p : ℕ) → count_of a b ≤ p → Absent (automaton a first second p)
  absent p past =
      at_source a p (λ source. Absent (from first second nothing source))
      (λ h. absurd (omega (arith, past, h, one.few)))
      (λ h k. two.absent (p - a) (omega (arith, past, h, k)))
      (λ _. nothing_absent)

  silent : (p : ℕ) → Silent (automaton a first second p)
  silent p = at_source a p (λ source. Silent (from first second nothing source)) (λ _. one.silent p) (λ _ _. two.silent (p - a)) (λ _. nothing_silent)

pub bound_rule : {a b : ℕ} {first second : ℕ → Automaton} {means follows : ℕ → List ℕ → Type 0}
    → SetRule a first means → SetRule b second follows → SetRule (count_of a b) (automaton a first second) (holds a means follows)
bound_rule {a} {b} {first} {second} {means} {follows} one two = record {
  few = min-le_right (a + b) most;
  recognizes = recognizes a b first second means follows one two;
  absent = absent a b first second means follows one two;
  silent = silent a b first second means follows one two;
}
