-- What reply a pile owes a call, and what the call leaves.
use Rattle.std.specs.Prelude.{◌≡◌, ℕ, ◌<◌, ◌≤◌, ◌↔◌, false, List, [], ◌∷◌, ◌++◌, length, is_some}
use Rattle.words.specs.Automata.{Automaton}
use Rattle.words.specs.Formulas.{Formula, Truth, Satisfies}
use Rattle.words.specs.Residuals.{Count, MoreThan}
use Rattle.words.specs.Meanings.{SameAfter, FormulaTable}
use Rattle.judging.specs.Earliest.{Written}
use Rattle.judging.specs.declared.verdict.Judgement.{Judgement}
use Rattle.judging.specs.declared.verdict.Verdict.TheVariants.{NoSets, AllSets}
use Rattle.saving.specs.Saved.{IsWritten}
use Rattle.saving.specs.TableText.{table_text}
use Rattle.tray.specs.Checks.{FirstFailed, AllPass}
use Rattle.tray.specs.Calls.{no_set, full, fewer_than, place_checks, join_checks, hide_checks, top_checks, judge_checks}
use Rattle.tray.specs.Refusals.{number_of}
use Rattle.calls.specs.declared.call.Call.{Call}
use Rattle.calls.specs.declared.call.Call.TheVariants.{Place, Single, Negate, Both, Either, Hide, Drop, Save, Judge}
use Rattle.calls.specs.declared.call.Reply.{Reply}
use Rattle.calls.specs.declared.call.Reply.TheVariants.{Refused, Built, Dropped, Saved, Judged}
use Rattle.calls.specs.Buffers.{Buffers}
use Rattle.calls.specs.Lent.{Lent}
use Rattle.calls.specs.Pile.{Becomes, SameMet}

-- What a call goes by: how many sets there are, the budget of states and the depth of tables; how much memory is lent; and how
-- many predicates the book has, and the automaton of each.
pub record Terms : Type 0 where
  pub sets : ℕ
  pub budget : ℕ
  pub depth : ℕ
  pub lent : Lent
  pub size : ℕ
  pub automaton : ℕ → Automaton

-- What calls work on: the pile, and the output buffers.
pub record Desk : Type 0 where
  pub pile : List Formula
  pub buffers : Buffers

-- the text of the table of a formula
abbrev pub FormulaText : ℕ → (ℕ → List ℕ → Type 0) → Formula → List ℕ → Type 0
FormulaText n holds f text = (rows : List ℕ) × (size : ℕ) × FormulaTable n holds f rows size × (text ≡ table_text n size rows)

-- What a judgement says of a formula over n sets: none and all, exactly when no finite sets and when all make it true; how many
-- residuals it has; and the earliest words that satisfy it and that fail it, written to the two buffers and absent exactly at none
-- and at all.
pub record JudgedFormula (n : ℕ) (holds : ℕ → List ℕ → Type 0) (f : Formula) (old new : Buffers) (j : Judgement) : Type 0 where
  pub none : (j.verdict ≡ NoSets) ↔ ((x : ℕ → ℕ) → Truth holds f x → ⊥)
  pub all : (j.verdict ≡ AllSets) ↔ ((x : ℕ → ℕ) → Truth holds f x)
  pub states : Count n (SameAfter n holds f) j.states
  pub witness : Written n (Satisfies holds f) old.witness new.witness j.witness
  pub counterexample : Written n (λ w. Satisfies holds f w → ⊥) old.counterexample new.counterexample j.counterexample
  pub no_witness : (is_some j.witness ≡ false) ↔ (j.verdict ≡ NoSets)
  pub no_counterexample : (is_some j.counterexample ≡ false) ↔ (j.verdict ≡ AllSets)

module _ (t : Terms) (holds : ℕ → List ℕ → Type 0) where
  -- met is more than the budget
  abbrev pub over : List Formula → Call → List (ℕ × Type 0)
  over pile call =
      (23, (f : Formula) × (rest : List Formula) × Becomes pile call (f ∷ rest) × MoreThan t.sets (SameMet t.sets t.automaton holds f) t.budget) ∷ []

  -- a buffer is shorter than the text of the formula on top
  abbrev pub too_long : List Formula → List ℕ → ℕ × Type 0
  too_long pile buffer =
      (8, (f : Formula) × (rest : List Formula) × (text : List ℕ) × (pile ≡ f ∷ rest) × FormulaText t.sets holds f text × (length buffer < length text))

  -- the checks of each call, in their order
  abbrev pub checks : Desk → Call → List (ℕ × Type 0)
  checks d (Place p listed) =
      place_checks t.sets t.budget t.depth (length d.pile) t.lent.states t.lent.links t.size (t.automaton p).places p listed.now
      ++ over d.pile (Place p listed)
  checks d (Single i) = (no_set t.sets i ∷ full t.depth (length d.pile) ∷ []) ++ over d.pile (Single i)
  checks d Negate = top_checks (length d.pile)
  checks d Both = join_checks t.budget (length d.pile) t.lent.pairs t.lent.links ++ over d.pile Both
  checks d Either = join_checks t.budget (length d.pile) t.lent.pairs t.lent.links ++ over d.pile Either
  checks d (Hide i) = hide_checks t.sets t.budget (length d.pile) t.lent.sets t.lent.links i ++ over d.pile (Hide i)
  checks d Drop = top_checks (length d.pile)
  checks d Save = (20, 4 < t.sets) ∷ fewer_than 1 (length d.pile) ∷ too_long d.pile d.buffers.text ∷ []
  checks d Judge = judge_checks t.budget (length d.pile) (length d.buffers.witness) (length d.buffers.counterexample)

  -- The reply that is owed to a call, and the desk that it leaves. A refusal is the number of the first check that fails, and leaves
  -- the desk as it was. Otherwise every check passes. A building call puts its formula on the pile, and counts met and kept, of
  -- which met is within the budget; drop takes the top away; save and judge write to their buffers and say what they wrote of the formula on top.
  abbrev pub Owes : Desk → Call → Reply → Desk → Type 0
  Owes d call (Refused why) d' = FirstFailed (checks d call) (number_of why) × (d' ≡ d)
  Owes d call (Built met kept) d' =
      AllPass (checks d call) × (d'.buffers ≡ d.buffers) × Becomes d.pile call d'.pile
      × (f : Formula) × (rest : List Formula) × (d'.pile ≡ f ∷ rest)
      × Count t.sets (SameMet t.sets t.automaton holds f) met × Count t.sets (SameAfter t.sets holds f) kept × (met ≤ t.budget)
  Owes d call Dropped d' = AllPass (checks d call) × (d'.buffers ≡ d.buffers) × (call ≡ Drop) × (f : Formula) × (d.pile ≡ f ∷ d'.pile)
  Owes d call (Saved bytes) d' =
      AllPass (checks d call) × (d'.pile ≡ d.pile) × (call ≡ Save)
      × (d'.buffers.witness ≡ d.buffers.witness) × (d'.buffers.counterexample ≡ d.buffers.counterexample)
      × (f : Formula) × (rest : List Formula) × (text : List ℕ) × (d.pile ≡ f ∷ rest)
      × FormulaText t.sets holds f text × IsWritten text d.buffers.text d'.buffers.text bytes
  Owes d call (Judged j) d' =
      AllPass (checks d call) × (d'.pile ≡ d.pile) × (call ≡ Judge) × (d'.buffers.text ≡ d.buffers.text)
      × (f : Formula) × (rest : List Formula) × (d.pile ≡ f ∷ rest) × JudgedFormula t.sets holds f d.buffers d'.buffers j

  -- a call feeds a desk whatever it is replied
  abbrev pub Feeds : Desk → Call → Desk → Type 0
  Feeds d call d' = (reply : Reply) × Owes d call reply d'

  -- calls made in their order
  abbrev pub Fed : Desk → List Call → Desk → Type 0
  Fed d [] d' = d' ≡ d
  Fed d (call ∷ calls) d' = (e : Desk) × Feeds d call e × Fed e calls d'
