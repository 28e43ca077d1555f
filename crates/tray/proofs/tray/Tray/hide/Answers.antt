use Rattle.std.proofs.Common.{ℕ, ◌-◌, ◌*◌, ◌≤◌, Bool, List, length, drop, Ok, Err, subst, arith}
use Rattle.words.specs.Hiding.{Hides, SameCollection}
use Rattle.words.specs.TableOf.{answers}
use Rattle.hiding.proofs.Collections.{collection_equality}
use Rattle.tray.specs.Aside.{HiddenAside}
use Rattle.tray.specs.Calls.{hide_checks}
use Rattle.tray.specs.View.{slot, says}
use Rattle.tray.proofs.Builts.{landed_call, fits_slot}
use Rattle.tray.proofs.Checking.{not_above, not_below}
use Rattle.tray.proofs.Hidings.{hides_move, hidden_sets}
use Rattle.tray.proofs.Landings.{Lands, lands, refused, accepted}
use Rattle.tray.proofs.Recovering.{by_sets_in, says_known}
use Rattle.tray.proofs.tray.Tray.hide.Goals as goal

pub explore_hidden-requires-clause-ready : goal.explore_hidden-requires-clause-ready
explore_hidden-requires-clause-ready c =
    let t = c.args.self.now in
    let k = t.control in
    let pass = c.in_ok-may_hide.ensures in
    let some : 1 ≤ k.count = not_below k.count 1 pass.1.1.0 in (
      c.table-table.ensures.places,
      not_above k.sets c.args.set pass.1.0,
      omega (arith, c.table-table.ensures.states, fits_slot k t.tables.now (k.count - 1) (t.live (k.count - 1) (omega arith)), t.few_states),
    )

pub returns-in_err-counts-clause-hides : goal.returns-in_err-counts-clause-hides
returns-in_err-counts-clause-hides c =
    let t = c.args.self.now in
    let k = t.control in
    let i : ℕ = c.args.set in
    let top : ℕ = k.count - 1 in
    let L : List ℕ → Bool = says k t.tables.now top in
    let pass = c.in_ok-may_hide.ensures in
    let some : 1 ≤ k.count = not_below k.count 1 pass.1.1.0 in
    let known = says_known k t.tables.now top c.table-table.result.rows c.table-table.ensures.places c.table-table.ensures.states c.table-table.ensures.cells in
    refused (hide_checks k.sets k.budget k.count (length c.args.records.now) (length c.args.links.now) i) k.sets k.budget top
    (SameCollection k.sets i L) (Hides k.sets i L) k t.tables.now
    c.from_residual-in_err-counts.result c.in_err-counts.field-0.0 c.from_residual-in_err-counts.ensures.1 pass
    (subst (λ l. HiddenAside k.sets k.budget l i (drop (slot k) c.explore_hidden.new.spare) (Err c.in_err-counts.field-0.0)) known c.in_err-counts.ensures)

pub invariant_of-self-2-clause-live : goal.invariant_of-self-2-clause-live
invariant_of-self-2-clause-live c =
    let t = c.args.self.now in
    let k = t.control in
    let i : ℕ = c.args.set in
    let top : ℕ = k.count - 1 in
    let L : List ℕ → Bool = says k t.tables.now top in
    let pass = c.in_ok-may_hide.ensures in
    let some : 1 ≤ k.count = not_below k.count 1 pass.1.1.0 in
    let by_sets = by_sets_in k t.tables.now top (t.live top (omega arith)) in
    let known = says_known k t.tables.now top c.table-table.result.rows c.table-table.ensures.places c.table-table.ensures.states c.table-table.ensures.cells in
    let met : ℕ = c.in_ok-counts.counts.met in
    let size : ℕ = c.in_ok-counts.counts.kept in
    let fresh : List ℕ = drop (slot k) c.explore_hidden.new.spare in
    let found = subst (λ l. HiddenAside k.sets k.budget l i fresh (Ok c.in_ok-counts.counts)) known c.in_ok-counts.ensures in
    let landed : Lands k.sets k.budget (top * slot k) (SameCollection k.sets i L) (Hides k.sets i L) t.tables.now c.land.new.tables met size =
    lands k.sets k.budget (top * slot k) (SameCollection k.sets i L) (Hides k.sets i L) (answers k.sets size fresh) fresh t.tables.now c.land.new.tables met size
    found.0 found.1 found.3 found.2 c.land.ensures.copied c.land.ensures.elsewhere (hidden_sets k.sets i L by_sets (answers k.sets size fresh) found.4) in
    let call = landed_call t top (SameCollection k.sets i L) (Hides k.sets i L) (omega (arith, t.holds)) (omega arith) (hides_move k.sets i L)
    c.land.new.tables met size landed c.land.new.self c.land.ensures.control in
    call.0

pub returns-clause-hides : goal.returns-clause-hides
returns-clause-hides c =
    let t = c.args.self.now in
    let k = t.control in
    let i : ℕ = c.args.set in
    let top : ℕ = k.count - 1 in
    let L : List ℕ → Bool = says k t.tables.now top in
    let pass = c.in_ok-may_hide.ensures in
    let some : 1 ≤ k.count = not_below k.count 1 pass.1.1.0 in
    let by_sets = by_sets_in k t.tables.now top (t.live top (omega arith)) in
    let known = says_known k t.tables.now top c.table-table.result.rows c.table-table.ensures.places c.table-table.ensures.states c.table-table.ensures.cells in
    let met : ℕ = c.in_ok-counts.counts.met in
    let size : ℕ = c.in_ok-counts.counts.kept in
    let fresh : List ℕ = drop (slot k) c.explore_hidden.new.spare in
    let found = subst (λ l. HiddenAside k.sets k.budget l i fresh (Ok c.in_ok-counts.counts)) known c.in_ok-counts.ensures in
    let landed : Lands k.sets k.budget (top * slot k) (SameCollection k.sets i L) (Hides k.sets i L) t.tables.now c.land.new.tables met size =
    lands k.sets k.budget (top * slot k) (SameCollection k.sets i L) (Hides k.sets i L) (answers k.sets size fresh) fresh t.tables.now c.land.new.tables met size
    found.0 found.1 found.3 found.2 c.land.ensures.copied c.land.ensures.elsewhere (hidden_sets k.sets i L by_sets (answers k.sets size fresh) found.4) in
    let call = landed_call t top (SameCollection k.sets i L) (Hides k.sets i L) (omega (arith, t.holds)) (omega arith) (hides_move k.sets i L)
    c.land.new.tables met size landed c.land.new.self c.land.ensures.control in
    accepted (hide_checks k.sets k.budget k.count (length c.args.records.now) (length c.args.links.now) i) top (SameCollection k.sets i L) (Hides k.sets i L)
    k t.tables.now c.land.new.self c.land.new.tables met size c.land.result c.land.ensures.counts (collection_equality k.sets i L) pass call.1
