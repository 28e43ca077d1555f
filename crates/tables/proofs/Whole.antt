-- A chart whose rows are all whole is an exploration.
use Rattle.std.proofs.Common.{◌≡◌, ℕ, ◌^◌, ◌<◌, List, sym, refl, ap, ◌∙◌, subst, inl, Ok, arith}
use Rattle.words.specs.Words.{Columns}
use Rattle.words.specs.Order.{NotLater}
use Rattle.words.specs.Automata.{Moves, run, reach, SameReach}
use Rattle.words.specs.Rows.{next_of}
use Rattle.words.specs.Links.{parent_of, column_of}
use Rattle.words.specs.Residuals.{Count, Equality}
use Rattle.words.proofs.Runs.{side}
use Rattle.words.proofs.Numbering.{trail_columns, trail_leads, trails_ordered, trail_earliest}
use Rattle.tables.specs.Chart.{Chart, Onward, Finds, moves_of}
use Rattle.tables.specs.Explored.{Explored, record_of, word_of}
use Rattle.tables.specs.declared.kind.Kind.{Ghosts}
use Rattle.tables.specs.declared.exploration.Search.{Search}

module _ {S : Type 0} (m : Moves S) (n met : ℕ) (records : List S) (links rows : List ℕ) (chart : Chart m n met 0 met records links rows) where
  stays : (j c : ℕ) → j < met → c < 2 ^ n → next_of n rows j c < met
  stays j c hj hc = (chart.rows j c hj hc (inl hj)).0

  -- rows and kind go side by side
  beside : (w : List ℕ) → Columns n w → (run (next_of n rows) 0 w < met) × (record_of m records (run (next_of n rows) 0 w) ≡ run m.next (record_of m records 0) w)
  beside w cs =
      side n met (next_of n rows) m.next (record_of m records) (λ s c h hc. let x = chart.rows s c h hc (inl h) in (x.0, x.1)) w 0 chart.some cs

  leads_to : (w : List ℕ) → Columns n w → record_of m records (run (next_of n rows) 0 w) ≡ reach m w
  leads_to w cs = (beside w cs).1 ∙ ap (λ s. run m.next s w) chart.start

  early : (w : List ℕ) → Columns n w → NotLater (word_of links (run (next_of n rows) 0 w)) w
  early w cs =
      (trail_earliest n met (next_of n rows) (parent_of links) (column_of links) chart.some stays chart.falls chart.fits
      (λ j c hj hc p. (chart.rows j c hj hc (inl hj)).2 p) chart.rising w cs).1

  pub whole : Explored m n met records links rows
  whole = record {
    some = chart.some;
    start = chart.start;
    different = chart.apart;
    next = λ j c hj hc. ((chart.rows j c hj hc (inl hj)).0, (chart.rows j c hj hc (inl hj)).1);
    mark = chart.marks;
    columns = trail_columns n met (parent_of links) (column_of links) chart.falls chart.fits;
    leads = λ j h.
        ap (λ s. run m.next s (word_of links j)) (sym chart.start)
        ∙ trail_leads n met (parent_of links) (column_of links) chart.falls chart.fits m.next (record_of m records) chart.joins j h;
    earliest = λ j h w cs e.
        let there : run (next_of n rows) 0 w ≡ j = chart.apart (run (next_of n rows) 0 w) j (beside w cs).0 h (leads_to w cs ∙ e) in
        subst (λ x. NotLater (word_of links x) w) there (early w cs);
    ordered = trails_ordered n met (next_of n rows) (parent_of links) (column_of links) chart.some stays chart.falls chart.fits
        (λ j c hj hc p. (chart.rows j c hj hc (inl hj)).2 p) chart.rising;
    every = λ w cs. (run (next_of n rows) 0 w, (beside w cs).0, sym (leads_to w cs));
  }

-- the records are counted by the words that lead to them
pub explored_count : {S : Type 0} (m : Moves S) (n met : ℕ) (records : List S) (links rows : List ℕ) → Explored m n met records links rows → Count n (SameReach m) met
explored_count m n met records links rows e = record {
  word = word_of links;
  columns = e.columns;
  different = λ i j hi hj same. e.different i j hi hj (sym (e.leads i hi) ∙ same ∙ e.leads j hj);
  every = λ w cs. let x = e.every w cs in (x.0, x.1, x.2 ∙ sym (e.leads x.0 x.1));
}

-- a search that looked at all its records has found the states
pub all_found : {K S : Type 0} {g : Ghosts K S} (s s' : Search K S g) → Onward s s' → (at : ℕ) → at ≡ s'.met
    → Chart (g.moves s'.kind.now) s'.limits.sets at 0 s'.met s'.records.now s'.links.now s'.rows.now → Finds s s' (Ok s'.met)
all_found {g = g} s s' onward at end chart =
    let all = whole (g.moves s.kind.now) s.limits.sets s'.met s'.records.now s'.links.now s'.rows.now (rw (onward.kind, onward.limits, end) at chart) in
    (omega (arith, s'.few, ap (λ l. l.budget) onward.limits), all, explored_count (moves_of s) s.limits.sets s'.met s'.records.now s'.links.now s'.rows.now all)

pub reach_equality : {S : Type 0} (m : Moves S) → Equality (SameReach m)
reach_equality m = record {
  itself = λ u. refl;
  back = λ u w e. sym e;
  chain = λ u w v e f. e ∙ f;
}
