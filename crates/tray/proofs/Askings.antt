-- A predicate on listed sets: what its states and its runs come to.
use Rattle.std.proofs.Common.{◌≡◌, ℕ, ◌<◌, ◌≤◌, List, map, length, get_or, Decides, sym, refl, ap, ◌∙◌, subst, ⊎_elim}
use Rattle.std.proofs.lemmas.Bool.{cases_lt}
use Rattle.words.specs.Words.{Columns, coded, sets}
use Rattle.words.specs.Automata.{Automaton, SameReach, language, accepted}
use Rattle.words.specs.Formulas.{through, placed}
use Rattle.words.specs.Residuals.{Equality}
use Rattle.words.proofs.Truths.{truth_local}
use Rattle.words.proofs.Placing.{through_run, through_columns, through_sets}
use Rattle.books.specs.Rule.{Recognizes}
use Rattle.tray.specs.Asked.{asked, SameBookState}

module _ (a : Automaton) (listed : List ℕ) where
  pub asked_same : (u w : List ℕ) → SameReach (asked a listed) u w → SameBookState a listed u w
  asked_same u w e = sym (through_run a.step listed a.start u) ∙ e ∙ through_run a.step listed a.start w

  pub same_asked : (u w : List ℕ) → SameBookState a listed u w → SameReach (asked a listed) u w
  same_asked u w e = through_run a.step listed a.start u ∙ e ∙ sym (through_run a.step listed a.start w)

  -- it accepts a word exactly when the relation holds of the listed sets of the word
  pub asked_means : (holds : List ℕ → Type 0) → Recognizes a holds → length listed ≡ a.places
      → (w : List ℕ) → Decides (language (asked a listed) w) (holds (map (λ i. coded i w) listed))
  asked_means holds recognizes places w =
      let read : List ℕ = map (through listed) w in
      let is : language (asked a listed) w ≡ accepted a read = ap a.accepts (through_run a.step listed a.start w) in
      let columns : Columns a.places read = subst (λ k. Columns k read) places (through_columns listed w) in
      let same : sets a.places read ≡ map (λ i. coded i w) listed = ap (λ k. sets k read) (sym places) ∙ through_sets listed w in
      let means = recognizes.means read columns in
      ((λ e. subst holds same (means.0 (sym is ∙ e))), (λ h. is ∙ means.1 (subst holds (sym same) h)))

  pub book_equality : Equality (SameBookState a listed)
  book_equality = record { itself = λ u. refl; back = λ u w e. sym e; chain = λ u w v e f. e ∙ f }

-- sets that a check found to be there are below n
pub all_there : (n : ℕ) (listed : List ℕ) → (((j : ℕ) × (j < length listed) × (n ≤ get_or listed j 0)) → ⊥) → (j : ℕ) → j < length listed → get_or listed j 0 < n
all_there n listed pass j h = ⊎_elim (λ l. l) (λ l. absurd (pass (j, h, l))) (cases_lt (get_or listed j 0) n)

-- what holds of the listed sets of a word holds of those of every word that codes the same sets
pub listed_moves : (n : ℕ) (holds : List ℕ → Type 0) (listed : List ℕ) → ((j : ℕ) → j < length listed → get_or listed j 0 < n)
    → (u w : List ℕ) → Columns n u → Columns n w → ((i : ℕ) → i < n → coded i u ≡ coded i w)
    → holds (map (λ i. coded i u) listed) → holds (map (λ i. coded i w) listed)
listed_moves n holds listed there u w _ _ same h = truth_local n (λ _. holds) (placed 0 listed) there (λ i. coded i u) (λ i. coded i w) same h
