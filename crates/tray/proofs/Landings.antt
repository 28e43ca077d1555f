-- A table that was explored and merged in the work space, and copied to its slot, lies there.
use Rattle.std.proofs.Common.{◌≡◌, ℕ, ◌+◌, ◌*◌, ◌<◌, ◌≤◌, Bool, List, ◌++◌, get_or, drop, Ok, Err, Result, Decides, sym, refl, ap, ◌∙◌, subst}
use Rattle.std.specs.Result.{IsErrAnd}
use Rattle.std.proofs.lemmas.List.{get_or-drop}
use Rattle.std.proofs.lemmas.Result.{err_from_is_err_and}
use Rattle.words.specs.Words.{Columns}
use Rattle.words.specs.Automata.{Moves, SameReach}
use Rattle.words.specs.Rows.{width}
use Rattle.words.specs.Residuals.{Equality, Count, MoreThan}
use Rattle.words.specs.TableOf.{TableOf, answers}
use Rattle.words.proofs.Answering.{table_answers, table_of_answers}
use Rattle.words.proofs.Copies.{copied_table}
use Rattle.words.proofs.Pairing.{more_same}
use Rattle.tables.specs.Tabulated.{Elsewhere}
use Rattle.tables.specs.declared.exploration.Unexplored.{Unexplored}
use Rattle.tables.specs.declared.exploration.Unexplored.TheVariants.{TooMany}
use Rattle.tray.specs.declared.control.Control.{Control}
use Rattle.tray.specs.declared.refusal.Refusal.{Refusal}
use Rattle.tray.specs.declared.refusal.Refusal.TheVariants.{TooManyStates}
use Rattle.tray.specs.Building.{Built, Builds}
use Rattle.tray.specs.Calls.{too_many}
use Rattle.tray.specs.Checks.{AllPass}
use Rattle.tray.specs.Refusals.{refusal_of}
use Rattle.tray.proofs.Checking.{passes, exceeds}

-- from `base` on lies the table of the words that `Means` speaks of
pub record Lands (n budget base : ℕ) (Same : List ℕ → List ℕ → Type 0) (Means : List ℕ → Type 0) (tables tables' : List ℕ) (met size : ℕ) : Type 0 where
  pub met_few : met ≤ budget
  pub size_few : size ≤ met
  pub met_count : Count n Same met
  pub table : TableOf n (answers n size (drop base tables')) (drop base tables') size
  pub means : (w : List ℕ) → Columns n w → Decides (answers n size (drop base tables') w) (Means w)
  pub elsewhere : Elsewhere base (size * width n) tables tables'

module _ (n budget base : ℕ) (Same : List ℕ → List ℕ → Type 0) (Means : List ℕ → Type 0) (L : List ℕ → Bool) (fresh tables tables' : List ℕ) (met size : ℕ) where
  pub lands : met ≤ budget → size ≤ met → Count n Same met → TableOf n L fresh size
      → ((x : ℕ) → x < size * width n → get_or tables' (base + x) 0 ≡ get_or fresh x 0)
      → Elsewhere base (size * width n) tables tables'
      → ((w : List ℕ) → Columns n w → Decides (L w) (Means w)) → Lands n budget base Same Means tables tables' met size
  lands few fewer counted made copied elsewhere means =
      let table : TableOf n L (drop base tables') size =
      copied_table n size fresh (drop base tables') (λ x h. get_or-drop base tables' x 0 ∙ copied x h) L made in
      record {
        met_few = few;
        size_few = fewer;
        met_count = counted;
        table = table_of_answers n L (drop base tables') size table;
        means = λ w cs. subst (λ b. Decides b (Means w)) (sym (table_answers n L (drop base tables') size table w cs)) (means w cs);
        elsewhere = elsewhere;
      }

-- ... or too many states were met
pub too_many_met : {S : Type 0} (m : Moves S) (n budget : ℕ) (Same : List ℕ → List ℕ → Type 0) (why : Unexplored)
    → ((u w : List ℕ) → Columns n u → Columns n w → Same u w → SameReach m u w) → (why ≡ TooMany) × MoreThan n (SameReach m) budget
    → (why ≡ TooMany) × MoreThan n Same budget
too_many_met m n budget Same why from found = (found.0, more_same n (SameReach m) Same budget from found.1)

-- the answer of a call that was refused for too many states
pub refused : (early : List (ℕ × Type 0)) (n budget below : ℕ) (Same : List ℕ → List ℕ → Type 0) (Means : List ℕ → Type 0) (c : Control) (tables : List ℕ)
    (r : Result (ℕ × ℕ) Refusal) (why : Unexplored) → IsErrAnd r (λ e. e ≡ refusal_of why) → AllPass early → (why ≡ TooMany) × MoreThan n Same budget
    → Builds (early ++ too_many n Same budget) below Same Means c tables c tables r
refused early n budget below Same Means c tables r why said pass more =
    let p = err_from_is_err_and r said in
    let known : p.0 ≡ TooManyStates = p.2 ∙ ap refusal_of more.0 in
    subst (Builds (early ++ too_many n Same budget) below Same Means c tables c tables) (sym (p.1 ∙ ap Err known))
    (exceeds early n Same budget pass more.1, refl, refl)

-- the answer of a call that passed its checks and built a table
pub accepted : (early : List (ℕ × Type 0)) (below : ℕ) (Same : List ℕ → List ℕ → Type 0) (Means : List ℕ → Type 0) (c : Control) (tables : List ℕ) (c' : Control)
    (tables' : List ℕ) (met size : ℕ) (answer : ℕ × ℕ) → answer ≡ (met, size) → Equality Same → AllPass early → Built below Same Means met size c tables c' tables'
    → Builds (early ++ too_many c.sets Same c.budget) below Same Means c tables c' tables' (Ok answer)
accepted early below Same Means c tables c' tables' met size answer is equal pass made =
    subst (λ r. Builds (early ++ too_many c.sets Same c.budget) below Same Means c tables c' tables' (Ok r)) (sym is)
    (passes early c.sets Same c.budget met equal pass made.met_few made.met_count, made)
