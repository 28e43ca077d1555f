-- What the definitions of a claim's meaning come to.
use Rattle.std.specs.Prelude.{◌≡◌, ℕ, ◌^◌, ◌↔◌, List, [], ◌∷◌, ◌++◌, All, Option}
use Rattle.words.specs.Automata.{Automaton}
use Rattle.words.specs.Formulas.{Formula}
use Rattle.words.specs.Meanings.{SameAfter}
use Rattle.words.specs.Sets.{Only}
use Rattle.words.specs.Words.{Columns}
use Rattle.tokens.specs.Items.{items_of}
use Rattle.grammar.specs.declared.step.Spot.{Spot}
use Rattle.grammar.specs.Claims.{Claim, atom, denial, and, or, implies, some, every, spelled, Fits, free}
use Rattle.reading.specs.Formulas.{Decided, whole}
use Rattle.reading.specs.Judging.{SameEnds}
use Rattle.reading.specs.Meaning.{Codes, Satisfied, WholeMeans}

-- the variables of a claim in the order of the text, those of quantifiers too
abbrev pub variables : Claim → List Spot
variables (atom at p spots) = spots
variables (denial at f) = variables f
variables (and at f g) = variables f ++ variables g
variables (or at f g) = variables f ++ variables g
variables (implies at f g) = variables f ++ variables g
variables (some at x f) = x ∷ variables f
variables (every at x f) = x ∷ variables f

pub record MeaningLaws : Type 0 where
  -- the number 2^p is the set {p}
  pub alone : (p : ℕ) → Only p (2 ^ p)
  -- in a claim that a text spells, two variables have one set exactly when they have one letter
  pub one_set : (numbered : List ℕ → Option ℕ) (a : ℕ → Automaton) (text : List ℕ) (f : Claim) → items_of numbered a text ≡ spelled f []
      → All (λ x. All (λ y. (x.letter ≡ y.letter) ↔ (x.set ≡ y.set)) (variables f)) (variables f)
  -- whatever the letters of such a claim stand for, some word codes what its free variables stand for
  pub some_word : (numbered : List ℕ → Option ℕ) (a : ℕ → Automaton) (n : ℕ) (text : List ℕ) (f : Claim) (v : ℕ → ℕ)
      → items_of numbered a text ≡ spelled f [] → Fits n 0 f → (w : List ℕ) × Columns n w × Codes (free [] f) v w

-- What a claim and the formula that is built of it have in common, where `holds` is what a book's predicates mean.
pub record WholeLaws (holds : ℕ → List ℕ → Type 0) : Type 0 where
  -- where every formula is true or not, the whole formula of a claim that a text spells means what the claim means
  pub means : (numbered : List ℕ → Option ℕ) (a : ℕ → Automaton) (n : ℕ) (text : List ℕ) (f : Claim) → items_of numbered a text ≡ spelled f []
      → Fits n 0 f → ((g : Formula) → Decided holds g) → WholeMeans n holds f
  -- a formula that means what a claim means has the same residuals
  pub residuals : (n : ℕ) (f : Claim) → WholeMeans n holds f
      → (u w : List ℕ) → Columns n u → Columns n w → SameAfter n holds (whole n f) u w ↔ SameEnds n (Satisfied holds f) u w
