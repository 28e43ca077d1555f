-- What the definitions of reading a text come to.
use Rattle.std.specs.Prelude.{◌≡◌, ℕ, List, [], None, Option, Result}
use Rattle.words.specs.Automata.{Automaton}
use Rattle.tray.specs.declared.control.Control.{Control}
use Rattle.calls.specs.Lent.{Lent}
use Rattle.grammar.specs.Claims.{Claim}
use Rattle.grammar.specs.Planning.{ReadsAs, text_fault}
use Rattle.grammar.specs.Steps.{all_steps}
use Rattle.reading.specs.Building.{AllMade}
use Rattle.reading.specs.Reading.{RefusedFor, ReadsText}
use Rattle.reading.specs.Stepping.{terms_of}
use Rattle.reading.specs.declared.fault.Fault.{Fault}
use Rattle.reading.specs.declared.fault.Reason.{Reason}

pub record ReadingLaws (numbered : List ℕ → Option ℕ) (size : ℕ) (a : ℕ → Automaton) (holds : ℕ → List ℕ → Type 0) : Type 0 where
  -- a text is refused for one reason, at one place
  pub one_fault : (lent : Lent) (room : ℕ) (text : List ℕ) (c : Control) (r s : Reason) (p q : ℕ) → RefusedFor numbered size a holds lent room text c r p
      → RefusedFor numbered size a holds lent room text c s q → (r ≡ s) × (p ≡ q)
  -- and then it is not a text without a fault whose building calls all pass their checks
  pub never_both : (lent : Lent) (room : ℕ) (text : List ℕ) (c : Control) (r : Reason) (p : ℕ) (f : Claim)
      → RefusedFor numbered size a holds lent room text c r p → text_fault numbered a c.sets room text ≡ None → ReadsAs numbered a c.sets text f
      → AllMade (terms_of c lent size a) holds c.count [] (all_steps c.sets f) → ⊥
  -- so one answer is owed to a text on a tray
  pub one_answer : (lent : Lent) (room : ℕ) (text : List ℕ) (c : Control) (tables : List ℕ) (c1 : Control) (tables1 : List ℕ) (c2 : Control) (tables2 : List ℕ)
      (r s : Result (ℕ × ℕ) Fault) → ReadsText numbered size a holds lent room text c tables c1 tables1 r
      → ReadsText numbered size a holds lent room text c tables c2 tables2 s → r ≡ s
