-- What a text is read as: a claim and the steps that build it, or a fault.
use Rattle.std.specs.Prelude.{◌≡◌, ℕ, ◌+◌, ◌*◌, ◌≤◌, cond, nat_lt, min, List, [], ◌∷◌, map, take, length, Some, None, Option, Ok, Err, Result}
use Rattle.words.specs.Automata.{Automaton}
use Rattle.tokens.specs.Items.{longest, items_of}
use Rattle.grammar.specs.declared.flaw.Flaw.{Flaw}
use Rattle.grammar.specs.declared.flaw.Flaw.TheVariants.{NoRoom, TooLong}
use Rattle.grammar.specs.declared.flaw.Flawed.{Flawed}
use Rattle.grammar.specs.declared.step.Step.{Step}
use Rattle.grammar.specs.Limits.{most_sets}
use Rattle.grammar.specs.Claims.{Claim, spelled, Fits}
use Rattle.grammar.specs.Faults.{formula, fault}
use Rattle.grammar.specs.Steps.{step_of, all_steps}
use Rattle.grammar.specs.Written.{SameBehind}

-- how many sets a text is read over
abbrev pub most : ℕ → ℕ
most sets = min sets most_sets

module _ (numbered : List ℕ → Option ℕ) (a : ℕ → Automaton) (sets : ℕ) where
  -- The text reads as a claim: its items spell it, nothing follows, no part is nested too deeply, and every variable has a set.
  pub record ReadsAs (text : List ℕ) (f : Claim) : Type 0 where
    pub spells : items_of numbered a text ≡ spelled f []
    pub fits : Fits (most sets) 0 f

  -- the fault of a text, where there is room for so many steps: the checks in their order
  abbrev pub text_fault : ℕ → List ℕ → Option (Flaw × ℕ)
  text_fault room text =
      cond (nat_lt longest (length text)) (Some (TooLong, 0))
      (cond (nat_lt room (3 * length text + 16)) (Some (NoRoom, 0))
      (fault (most sets) (length text) (formula 0 ∷ []) (items_of numbered a text)))

  -- how much of the memory a refusal leaves open: nothing before the items are read, and then three steps for each byte
  abbrev pub open_after : ℕ → List ℕ → ℕ
  open_after room text = cond (nat_lt longest (length text)) 0 (cond (nat_lt room (3 * length text + 16)) 0 (3 * length text))

  -- The text reads as a claim, and the steps that build it stand at the front of the memory; or it has a fault. What is behind the
  -- steps, or behind what a refusal leaves open, stays.
  abbrev pub Plans : List ℕ → List Step → List Step → Result ℕ Flawed → Type 0
  Plans text old new (Ok k) =
      (text_fault (length old) text ≡ None) × SameBehind k old new × (k ≤ length new)
      × (f : Claim) × ReadsAs text f × (map step_of (take k new) ≡ all_steps (most sets) f)
  Plans text old new (Err e) =
      (text_fault (length old) text ≡ Some (e.flaw, e.place)) × SameBehind (open_after (length old) text) old new
