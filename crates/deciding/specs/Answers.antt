-- What is answered to a question.
use Rattle.std.specs.Prelude.{◌≡◌, ℕ, ◌+◌, ◌-◌, ◌*◌, ◌<◌, ◌⊎◌, ◌≤◌, List, [], ◌∷◌, length, drop, replicate, Some, None, Option, Ok, Err, Result}
use Rattle.words.specs.Automata.{Automaton}
use Rattle.words.specs.Rows.{width}
use Rattle.checks.specs.Layers.{layer_of}
use Rattle.judging.specs.Judged.{Judged as JudgedWords}
use Rattle.calls.specs.Lent.{lent_for}
use Rattle.tray.specs.Checks.{FirstFailed, AllPass}
use Rattle.tray.specs.View.{says}
use Rattle.tray.specs.declared.control.Control.{Control}
use Rattle.calls.specs.declared.running.Settings.{Settings}
use Rattle.grammar.specs.Claims.{Claim}
use Rattle.grammar.specs.Planning.{ReadsAs, text_fault}
use Rattle.grammar.specs.Steps.{all_steps}
use Rattle.reading.specs.Building.{AllMade}
use Rattle.reading.specs.Judging.{JudgedClaim}
use Rattle.reading.specs.Reading.{RefusedFor}
use Rattle.reading.specs.Reasons.{reason_number}
use Rattle.reading.specs.Stepping.{terms_of}
use Rattle.reading.specs.declared.fault.Fault.{Fault}
use Rattle.deciding.specs.Printed.{word_at, answer_text}
use Rattle.deciding.specs.Questions.{Asks, Asked, unread_number}
use Rattle.deciding.specs.declared.answer.Answer.{Answer}
use Rattle.deciding.specs.declared.answer.Answer.TheVariants.{Refused, Judged as judged}
use Rattle.deciding.specs.declared.answer.Judged.{Judged}
use Rattle.deciding.specs.declared.question.Unread.{Unread}

-- the checks of open: there are 10,880 numbers for tables and work space
abbrev pub opening : Settings → List (ℕ × Type 0)
opening s =
    (1, (s.sets < 1) ⊎ (8 < s.sets)) ∷ (2, (s.budget < 1) ⊎ (512 < s.budget)) ∷ (3, (s.depth < 1) ⊎ (16 < s.depth))
    ∷ (4, 10880 < (s.depth + 2) * (s.budget * width s.sets)) ∷ []

-- the control record of a tray that was just opened: it holds no table
abbrev pub opened : Settings → Control
opened s = record { sets = s.sets; budget = s.budget; depth = s.depth; count = 0; sizes = replicate 16 0 }

-- A word of this length stands at the front of its 512 bytes, and those behind it are 0; where there is no word, all are.
abbrev pub StandsAlone : List ℕ → Option ℕ → Type 0
StandsAlone buffer None = buffer ≡ replicate 512 0
StandsAlone buffer (Some k) = (k ≤ length buffer) × (drop k buffer ≡ replicate (512 - k) 0)

-- a judgement with its words is that of a claim over n sets
pub record Judges (n : ℕ) (holds : ℕ → List ℕ → Type 0) (f : Claim) (j : Judged) : Type 0 where
  pub claim : JudgedClaim n holds f j.judgement.verdict j.judgement.states (word_at j.witness j.judgement.witness)
      (word_at j.counterexample j.judgement.counterexample)
  pub witness : StandsAlone j.witness j.judgement.witness
  pub counterexample : StandsAlone j.counterexample j.judgement.counterexample

-- A book that numbers names, with so many predicates, the automaton and the relation of each. There are 64 records of each kind of
-- explored state, and 3,088 steps.
module _ (numbered : List ℕ → Option ℕ) (size : ℕ) (a : ℕ → Automaton) (holds : ℕ → List ℕ → Type 0) where
  -- On a tray under this control record: the text has no fault and reads as a claim, whose building calls all pass their checks, and
  -- this is what is judged of it; or the text is refused.
  abbrev pub JudgesOn : List ℕ → Control → Result Judged Fault → Type 0
  JudgesOn text c (Ok j) =
      (text_fault numbered a c.sets 3088 text ≡ None)
      × (f : Claim) × ReadsAs numbered a c.sets text f × AllMade (terms_of c (lent_for 64) size a) holds c.count [] (all_steps c.sets f) × Judges c.sets holds f j
  JudgesOn text c (Err e) = RefusedFor numbered size a holds (lent_for 64) 3088 text c e.reason e.place

  -- Open is refused, or it passes its checks, and then the text is judged on the new tray.
  abbrev pub JudgesText : Settings → List ℕ → Result Judged Fault → Type 0
  JudgesText s text (Ok j) = AllPass (opening s) × JudgesOn text (opened s) (Ok j)
  JudgesText s text (Err e) =
      (FirstFailed (opening s) (reason_number e.reason) × (e.place ≡ 0))
      ⊎ (AllPass (opening s) × JudgesOn text (opened s) (Err e))

  -- why there is no verdict: the number and the place
  abbrev pub Lacks : List ℕ → ℕ → ℕ → Type 0
  Lacks input number place =
      ((why : Unread) × Asked input (Err why) × (number ≡ unread_number why) × (place ≡ 0))
      ⊎ ((s : Settings) × (text : List ℕ) × Asks input s text × (e : Fault) × JudgesText s text (Err e)
      × (number ≡ reason_number e.reason) × (place ≡ e.place))

  -- the answer that is owed to an input
  abbrev pub Answers : List ℕ → Answer → Type 0
  Answers input (Refused number layer place) = (layer ≡ layer_of number) × Lacks input number place
  Answers input (judged j) = (s : Settings) × (text : List ℕ) × Asks input s text × JudgesText s text (Ok j)

  -- the two lines of the answer that is owed to an input
  abbrev pub Prints : List ℕ → List ℕ → Type 0
  Prints input lines = (answer : Answer) × Answers input answer × (lines ≡ answer_text answer)

-- the top table is judged, where there is one, and each word is written into 512 bytes that were 0
abbrev pub JudgesTop : Control → List ℕ → Result Judged Fault → Type 0
JudgesTop c tables (Ok j) =
    JudgedWords c.sets (says c tables (c.count - 1)) (replicate 512 0) (replicate 512 0) j.witness j.counterexample j.judgement
JudgesTop c tables (Err e) = ⊥
