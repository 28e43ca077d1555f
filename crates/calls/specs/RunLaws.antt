-- What the definitions of runs come to, as statements. The function `laws_of_runs` carries their proofs.
use Rattle.std.specs.Prelude.{◌≡◌, ℕ, ◌<◌, ◌≤◌, ◌↔◌, List}
use Rattle.words.specs.Formulas.{Formula, single}
use Rattle.words.specs.Residuals.{Count, MoreThan}
use Rattle.calls.specs.declared.call.Call.{Call}
use Rattle.calls.specs.declared.call.Call.TheVariants.{Negate}
use Rattle.calls.specs.declared.call.Reply.{Reply}
use Rattle.calls.specs.declared.call.Reply.TheVariants.{Built}
use Rattle.calls.specs.Pile.{SameMet}
use Rattle.calls.specs.Owed.{Terms, Desk, Owes, Fed}

pub record RunLaws (holds : ℕ → List ℕ → Type 0) : Type 0 where
  -- one reply is owed to a call, and one desk is left
  pub one_reply : (t : Terms) (d : Desk) (call : Call) (r r' : Reply) (e e' : Desk) → Owes t holds d call r e → Owes t holds d call r' e' → (r ≡ r') × (e ≡ e')
  -- calls feed one desk
  pub one_desk : (t : Terms) (calls : List Call) (d e e' : Desk) → Fed t holds d calls e → Fed t holds d calls e' → e ≡ e'
  -- more than the budget are met exactly when met exceeds the budget
  pub exceeds : (t : Terms) (f : Formula) (met : ℕ) → Count t.sets (SameMet t.sets t.automaton holds f) met
      → MoreThan t.sets (SameMet t.sets t.automaton holds f) t.budget ↔ (t.budget < met)
  -- single meets three
  pub single_meets : (t : Terms) (i : ℕ) → i < t.sets → Count t.sets (SameMet t.sets t.automaton holds (single i)) 3
  -- negate meets the residuals that it keeps, and no more than the budget
  pub negate_meets : (t : Terms) (d e : Desk) (met kept : ℕ) → Owes t holds d Negate (Built met kept) e → (met ≡ kept) × (met ≤ t.budget)
