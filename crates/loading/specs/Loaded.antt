-- The loaded book: its automaton, and the relation that its predicate means.
use Rattle.std.specs.Prelude.{◌≡◌, ℕ, true, List, [], ◌∷◌, min, Option, slice_index, slice_index_or}
use Rattle.words.specs.Automata.{Automaton, accepted}
use Rattle.words.specs.Rows.{written}
use Rattle.words.specs.Words.{Columns, sets}
use Rattle.saving.specs.TableText.{table_text}
use Rattle.books.specs.Names.{place_of}
use Rattle.loading.specs.declared.loaded.Loaded.{Loaded}

-- The relation between k sets that rows mean: some word that codes these sets is accepted by the run over it.
abbrev pub Accepts : ℕ → ℕ → List ℕ → List ℕ → Type 0
Accepts k states rows x = (w : List ℕ) × Columns k w × (sets k w ≡ x) × (accepted (written k states rows) w ≡ true)

-- how many predicates there are: none in a blank book, and else one
abbrev pub size : Loaded → ℕ
size b = min b.states 1

abbrev pub automaton : Loaded → ℕ → Automaton
automaton b p = written (slice_index (b.places ∷ []) p) (slice_index (b.states ∷ []) p) (slice_index_or (b.cells ∷ []) p [])

abbrev pub holds : Loaded → ℕ → List ℕ → Type 0
holds b p = slice_index_or (Accepts b.places b.states b.cells ∷ []) p (λ _. ⊥)

-- the names, by number
abbrev pub names : Loaded → List (List ℕ)
names b = slice_index_or ([] ∷ (b.name ∷ []) ∷ []) (size b) []

abbrev pub numbered : Loaded → List ℕ → Option ℕ
numbered b name = place_of name (names b)

-- the text of its rows
abbrev pub text_of : Loaded → List ℕ
text_of b = table_text b.places b.states b.cells
