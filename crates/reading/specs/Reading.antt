-- What reading a text does to a tray.
use Rattle.std.specs.Prelude.{◌≡◌, ℕ, ◌+◌, List, [], ◌∷◌, ◌++◌, Some, None, Option, Ok, Err, Result, Decides}
use Rattle.words.specs.Automata.{Automaton}
use Rattle.words.specs.Formulas.{Formula}
use Rattle.words.specs.Residuals.{Count}
use Rattle.words.specs.Words.{Columns}
use Rattle.tray.specs.Building.{SameSettings, SameTables}
use Rattle.tray.specs.Refusals.{number_of}
use Rattle.tray.specs.View.{says}
use Rattle.tray.specs.declared.control.Control.{Control}
use Rattle.calls.specs.Lent.{Lent}
use Rattle.calls.specs.Pile.{SameMet}
use Rattle.calls.specs.Promise.{StandsFor}
use Rattle.grammar.specs.Claims.{Claim}
use Rattle.grammar.specs.Planning.{ReadsAs, text_fault}
use Rattle.grammar.specs.Steps.{all_steps}
use Rattle.reading.specs.Building.{AllMade, RefusedAt}
use Rattle.reading.specs.Formulas.{whole}
use Rattle.reading.specs.Judging.{SameEnds}
use Rattle.reading.specs.Meaning.{Satisfied, WholeMeans}
use Rattle.reading.specs.Stepping.{SameBelow, SameTray, terms_of}
use Rattle.reading.specs.declared.fault.Fault.{Fault}
use Rattle.reading.specs.declared.fault.Reason.{Reason}
use Rattle.reading.specs.declared.fault.Reason.TheVariants.{Text, Call}

-- a tray that stood for a pile of formulas now stands for it with these on top, whatever the pile is
abbrev pub StandsWith : (ℕ → List ℕ → Type 0) → List Formula → Control → List ℕ → Control → List ℕ → Type 0
StandsWith holds more c tables c' tables' =
    (pile : List Formula) → StandsFor holds c tables pile → StandsFor holds c' tables' (more ++ pile)

-- A book that numbers names, with so many predicates, the automaton and the relation of each; and the memory that is lent to each call.
module _ (numbered : List ℕ → Option ℕ) (size : ℕ) (a : ℕ → Automaton) (holds : ℕ → List ℕ → Type 0) (lent : Lent) where
  -- The text reads as this claim, and one table lies on top of those that were there: it accepts the words that code sets which
  -- satisfy the claim. It is the table of the whole formula, which means what the claim means. The tables below are untouched. The
  -- counts are those of the last call: met of the whole formula, and the number of residuals of the claim.
  pub record Builds (text : List ℕ) (f : Claim) (c : Control) (tables : List ℕ) (c' : Control) (tables' : List ℕ) (counts : ℕ × ℕ) : Type 0 where
    pub reads : ReadsAs numbered a c.sets text f
    pub passes : AllMade (terms_of c lent size a) holds c.count [] (all_steps c.sets f)
    pub settings : SameSettings c c'
    pub count : c'.count ≡ c.count + 1
    pub others : SameTables c.count c tables c' tables'
    pub below : SameBelow c.count c tables tables'
    pub means : (w : List ℕ) → Columns c.sets w → Decides (says c' tables' c.count w) (Satisfied holds f w)
    pub whole_means : WholeMeans c.sets holds f
    pub stands : StandsWith holds (whole c.sets f ∷ []) c tables c' tables'
    pub met : Count c.sets (SameMet c.sets a holds (whole c.sets f)) counts.0
    pub kept : Count c.sets (SameEnds c.sets (Satisfied holds f)) counts.1

  -- why a text is refused, where there is room for so many steps: the text has a fault, or it reads as a claim and a building call is refused
  abbrev pub RefusedFor : ℕ → List ℕ → Control → Reason → ℕ → Type 0
  RefusedFor room text c (Text flaw) place = text_fault numbered a c.sets room text ≡ Some (flaw, place)
  RefusedFor room text c (Call why) place =
      (text_fault numbered a c.sets room text ≡ None) × (f : Claim) × ReadsAs numbered a c.sets text f
      × RefusedAt (terms_of c lent size a) holds c.count [] (all_steps c.sets f) (number_of why) place

  abbrev pub ReadsText : ℕ → List ℕ → Control → List ℕ → Control → List ℕ → Result (ℕ × ℕ) Fault → Type 0
  ReadsText room text c tables c' tables' (Ok counts) =
      (text_fault numbered a c.sets room text ≡ None) × (f : Claim) × Builds text f c tables c' tables' counts
  ReadsText room text c tables c' tables' (Err e) =
      RefusedFor room text c e.reason e.place × SameTray c tables c' tables' × StandsWith holds [] c tables c' tables'
