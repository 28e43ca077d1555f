-- What reading the items comes to for the text.
use Rattle.std.proofs.Common.{◌≡◌, ℕ, ◌+◌, ◌*◌, ◌≤◌, nat_lt, List, [], ◌∷◌, length, take, map, Some, None, Option, Ok, Err, Result, sym, ap, ◌∙◌, subst, arith}
use Rattle.std.proofs.lemmas.Bool.{cond-false, le-ltb}
use Rattle.words.specs.Automata.{Automaton}
use Rattle.tokens.specs.Items.{longest, items_of}
use Rattle.tokens.specs.declared.item.Item.{Item}
use Rattle.grammar.specs.declared.flaw.Flawed.{Flawed}
use Rattle.grammar.specs.declared.step.Step.{Step}
use Rattle.grammar.specs.Claims.{Claim, Fits}
use Rattle.grammar.specs.Faults.{formula, fault}
use Rattle.grammar.specs.Planning.{most, text_fault, open_after, Plans}
use Rattle.grammar.specs.Steps.{step_of, all_steps}
use Rattle.grammar.specs.Reading.{ReadsAll}
use Rattle.grammar.specs.Written.{SameBehind}
use Rattle.grammar.proofs.Keeping.{same_later}
use Rattle.grammar.proofs.Spelling.{claim_fault}

module _ (numbered : List ℕ → Option ℕ) (a : ℕ → Automaton) (sets : ℕ) (text : List ℕ) (room : ℕ) where
  -- a text of the right length, with room for its steps, has the fault of its items
  fault_of_items : length text ≤ longest → 3 * length text + 16 ≤ room
      → text_fault numbered a sets room text ≡ fault (most sets) (length text) (formula 0 ∷ []) (items_of numbered a text)
  fault_of_items short wide =
      cond-false (nat_lt longest (length text)) _ _ (le-ltb longest (length text) short)
      ∙ cond-false (nat_lt room (3 * length text + 16)) _ _ (le-ltb room (3 * length text + 16) wide)

  -- and leaves open the memory for the steps of its items
  open_of_items : length text ≤ longest → 3 * length text + 16 ≤ room → open_after numbered a sets room text ≡ 3 * length text
  open_of_items short wide =
      cond-false (nat_lt longest (length text)) _ _ (le-ltb longest (length text) short)
      ∙ cond-false (nat_lt room (3 * length text + 16)) _ _ (le-ltb room (3 * length text + 16) wide)

  module _ (n : ℕ) (over : n ≡ most sets) (items : List Item) (is : items ≡ items_of numbered a text) (short : length text ≤ longest)
      (wide : 3 * length text + 16 ≤ room) (fewer : length items ≤ length text)
    where
      same_fault : fault n (length text) (formula 0 ∷ []) items ≡ text_fault numbered a sets room text
      same_fault =
          ap (fault n (length text) (formula 0 ∷ [])) is ∙ ap (λ k. fault k (length text) (formula 0 ∷ []) (items_of numbered a text)) over
          ∙ sym (fault_of_items short wide)

      pub plans : (old new : List Step) (r : Result ℕ Flawed) → length old ≡ room → ReadsAll n (length text) items old new r
          → Plans numbered a sets text old new r
      plans old new (Ok k) same h =
          let f : Claim = h.2 in
          let none : fault n (length text) (formula 0 ∷ []) items ≡ None =
          ap (fault n (length text) (formula 0 ∷ [])) h.3 ∙ claim_fault n (length text) 0 f h.4 [] [] in (
            subst (λ j. text_fault numbered a sets j text ≡ None) (sym same) (sym same_fault ∙ none),
            h.0,
            h.1,
            f,
            record { spells = sym is ∙ h.3; fits = subst (λ k. Fits k 0 f) over h.4 },
            subst (λ j. map step_of (take k new) ≡ all_steps j f) over h.5,
          )
      plans old new (Err e) same h = (
        subst (λ j. text_fault numbered a sets j text ≡ Some (e.flaw, e.place)) (sym same) (sym same_fault ∙ h.0),
        subst (λ k. SameBehind k old new) (sym (ap (λ j. open_after numbered a sets j text) same ∙ open_of_items short wide))
            (same_later (3 * length items) (3 * length text) (omega (arith, fewer)) old new h.1),
      )
