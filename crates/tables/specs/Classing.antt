-- Classes of states in memory: contracts of the functions within merging. A reader of the statement can pass over this file.
use Rattle.std.specs.Prelude.{ℕ, ◌^◌, ◌<◌, List, slice_index}
use Rattle.words.specs.Described.{described}
use Rattle.words.specs.declared.rows.Rows.{Rows}
use Rattle.words.proofs.Merging.{Classes}

-- every next state is a state
abbrev pub Closed : Rows → Type 0
Closed r = (s c : ℕ) → s < r.states → c < 2 ^ r.places → (described r).step s c < r.states

abbrev pub Classed : Rows → List ℕ → Type 0
Classed r class = Classes r.places (described r) r.states (slice_index class)
