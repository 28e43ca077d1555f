-- The promise of one call, and the promise over any run of calls.
use Rattle.std.specs.Prelude.{◌≡◌, ℕ, List, [], ◌∷◌, length, Bool, Ok, Err, Result}
use Rattle.words.specs.Automata.{Automaton}
use Rattle.words.specs.Formulas.{Formula, Names, Tells}
use Rattle.tray.specs.Checks.{FirstFailed, AllPass}
use Rattle.tray.specs.Opening.{open_checks}
use Rattle.tray.specs.Refusals.{number_of}
use Rattle.tray.specs.View.{says}
use Rattle.tray.specs.declared.control.Control.{Control}
use Rattle.tray.specs.declared.refusal.Refusal.{Refusal}
use Rattle.calls.specs.declared.call.Call.{Call}
use Rattle.calls.specs.declared.call.Reply.{Reply}
use Rattle.calls.specs.declared.running.Settings.{Settings}
use Rattle.calls.specs.Buffers.{Buffers}
use Rattle.calls.specs.Lent.{Lent}
use Rattle.calls.specs.Owed.{Terms, Desk, Owes, Fed}

-- the tables, counted from the lowest, accept the words that satisfy the formulas of a pile, whose top is the highest; every set
-- that a formula names is below n
abbrev pub TellEach : ℕ → (ℕ → List ℕ → Type 0) → (ℕ → List ℕ → Bool) → List Formula → Type 0
TellEach n holds table [] = Unit {0}
TellEach n holds table (f ∷ rest) = Names n f × Tells n holds f (table (length rest)) × TellEach n holds table rest

-- a tray holds the tables of the formulas of a pile, and no others
pub record StandsFor (holds : ℕ → List ℕ → Type 0) (c : Control) (tables : List ℕ) (pile : List Formula) : Type 0 where
  pub count : c.count ≡ length pile
  pub tells : TellEach c.sets holds (says c tables) pile

-- the settings of a tray
abbrev pub settings_of : Control → Settings
settings_of c = record { sets = c.sets; budget = c.budget; depth = c.depth }

-- what a call goes by on a tray with these settings, with so much memory lent
abbrev pub terms : Settings → Lent → ℕ → (ℕ → Automaton) → Terms
terms s lent size a = record { sets = s.sets; budget = s.budget; depth = s.depth; lent = lent; size = size; automaton = a }

-- One step of a run: whatever pile of formulas the tray stands for, the reply is the one that this pile owes the call, and the tray
-- stands for the pile that is left, under the settings that it had.
abbrev pub Continues : Lent → ℕ → (ℕ → Automaton) → (ℕ → List ℕ → Type 0) → Call → Control → List ℕ → Buffers → Control → List ℕ → Buffers → Reply → Type 0
Continues lent size a holds call c tables out c' tables' out' reply =
    (pile : List Formula) → StandsFor holds c tables pile
    → (left : List Formula)
    × Owes (terms (settings_of c) lent size a) holds (record { pile = pile; buffers = out }) call reply (record { pile = left; buffers = out' })
    × (settings_of c' ≡ settings_of c)
    × StandsFor holds c' tables' left

-- A run. Open is refused, and nothing changed. Or the calls feed a new pile, which then owes the next call this reply; and the
-- tray holds the tables of the pile that is left. `c` and `tables` are the tray before the run, with so much table and work memory.
abbrev pub Replays : Settings → Lent → ℕ → (ℕ → Automaton) → (ℕ → List ℕ → Type 0) → ℕ → Control → List ℕ → Buffers → List Call → Call
    → Control → List ℕ → Buffers → Result Reply Refusal → Type 0
Replays s lent size a holds spare c tables out calls next c' tables' out' (Ok reply) =
    AllPass (open_checks s.sets s.budget s.depth (length tables) spare)
    × (d : Desk) × (pile : List Formula)
    × Fed (terms s lent size a) holds (record { pile = []; buffers = out }) calls d
    × Owes (terms s lent size a) holds d next reply (record { pile = pile; buffers = out' })
    × (settings_of c' ≡ s)
    × StandsFor holds c' tables' pile
Replays s lent size a holds spare c tables out calls next c' tables' out' (Err why) =
    FirstFailed (open_checks s.sets s.budget s.depth (length tables) spare) (number_of why)
    × (c' ≡ c) × (tables' ≡ tables) × (out' ≡ out)
