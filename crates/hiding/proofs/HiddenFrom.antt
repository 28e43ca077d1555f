-- The table of what the sets of states accept is the table of the hidden set.
use Rattle.std.proofs.Common.{◌≡◌, ℕ, Bool, List, Ok, Err, Result, subst₂}
use Rattle.std.proofs.lemmas.Bool.Decides.{Decides-at}
use Rattle.words.specs.Automata.{Moves, language, SameReach}
use Rattle.words.specs.Described.{language_of, IsTable}
use Rattle.words.specs.declared.rows.Rows.{Rows}
use Rattle.words.specs.declared.table.Table.{Table}
use Rattle.words.specs.Hiding.{SameCollection}
use Rattle.words.proofs.Answering.{table_answers, table_of_answers}
use Rattle.words.proofs.Recovered.{table_of}
use Rattle.words.proofs.Pairing.{count_same, more_same}
use Rattle.tables.specs.Tabulated.{Tabulates}
use Rattle.tables.specs.declared.exploration.Unexplored.{Unexplored}
use Rattle.tables.specs.declared.exploration.Unexplored.TheVariants.{NoRoom, TooMany}
use Rattle.tables.specs.declared.memory.Memory.{Memory}
use Rattle.tables.specs.declared.tabulation.Counts.{Counts}
use Rattle.hiding.specs.declared.state_set.StateSet.{StateSet}
use Rattle.hiding.specs.declared.hidden_rows.HiddenRows.{HiddenRows}
use Rattle.hiding.specs.Closings.{Closing}
use Rattle.hiding.specs.Collected.{collected}
use Rattle.hiding.specs.HiddenTable.{TabulatesHidden}
use Rattle.hiding.proofs.Reaching.{reach_collection, collection_reach, language_hides}

module _ (h : HiddenRows) (closing : StateSet) (closes : Closing h closing) (budget : ℕ) (memory memory' : Memory StateSet)
    (table table' : List ℕ)
  where
    abbrev n : ℕ
    n = h.rows.places

    abbrev L : List ℕ → Bool
    L = language_of h.rows

    abbrev m : Moves StateSet
    m = collected h closing

    abbrev Tabulated : ℕ → Result Counts Unexplored → Type 0
    Tabulated places =
        Tabulates m places budget 0 memory.records.now memory.links.now memory.rows.now table memory'.records.now memory'.links.now memory'.rows.now table'

    from_table : (r : Result Counts Unexplored) → IsTable h.rows → Tabulated n r → TabulatesHidden h.rows h.hidden.set budget memory table memory' table' r
    from_table (Ok t) given made = (
      (made.0, h.inside, h.few),
      made.1,
      made.2,
      table_of_answers n (language m) table' t.kept made.4,
      count_same n (SameReach m) (SameCollection n h.hidden.set L) t.met (reach_collection h L given closing) (collection_reach h L given closing) made.3,
      (λ w cw. Decides-at _ (language m w) (table_answers n (language m) table' t.kept made.4 w cw) (language_hides h L given closing closes w cw)),
      made.6,
    )
    from_table (Err TooMany) given made = (
      (made.0, h.inside, h.few),
      more_same n (SameReach m) (SameCollection n h.hidden.set L) budget (collection_reach h L given closing) made.1,
      made.2,
    )
    from_table (Err NoRoom) given made = ((λ ready. made.0 ready.0), made.1, made.2, made.3, made.4)

    pub hidden_from : (t : Table) (hidden : ℕ) (r : Result Counts Unexplored) → (h.rows ≡ t.rows) × (h.hidden.set ≡ hidden)
        → Tabulated t.rows.places r → TabulatesHidden t.rows hidden budget memory table memory' table' r
    hidden_from t hidden r is made =
        subst₂ (λ (x : Rows) i. IsTable x → Tabulated x.places r → TabulatesHidden x i budget memory table memory' table' r) is.0 is.1 (from_table r)
        (table_of t) made
