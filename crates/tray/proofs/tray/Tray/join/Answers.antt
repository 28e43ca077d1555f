use Rattle.std.proofs.Common.{◌≡◌, ℕ, ◌+◌, ◌-◌, ◌*◌, ◌≤◌, Bool, List, length, drop, Ok, Err, ap, ◌∙◌, subst, arith}
use Rattle.words.specs.Automata.{language}
use Rattle.words.specs.Residuals.{SamePair}
use Rattle.words.proofs.Pairing.{pair_equality, same_pairs}
use Rattle.tables.specs.Paired.{joined}
use Rattle.tray.specs.Aside.{Aside}
use Rattle.tray.specs.Calls.{join_checks}
use Rattle.tray.specs.Joined.{Joins}
use Rattle.tray.specs.View.{slot, size_of, rows_of, says}
use Rattle.tray.proofs.Builts.{landed_call, slot_within}
use Rattle.tray.proofs.Checking.{not_below}
use Rattle.tray.proofs.Joinings.{pairs_of, pairs_known, join_means, join_counts, joins_move}
use Rattle.tray.proofs.Landings.{Lands, lands, too_many_met, refused, accepted}
use Rattle.tray.proofs.Recovering.{table_in, by_sets_in}
use Rattle.tray.proofs.tray.Tray.join.Goals as goal

pub rows-requires-2 : goal.rows-requires-2
rows-requires-2 c =
    let t = c.args.self.now in
    let two : 2 ≤ t.control.count = not_below t.control.count 2 c.in_ok-may_join.ensures.1.0 in
    slot_within t (t.control.count - 2 + 1) (omega (arith, t.holds))

pub returns-in_err-counts-clause-joins : goal.returns-in_err-counts-clause-joins
returns-in_err-counts-clause-joins c =
    let t = c.args.self.now in
    let k = t.control in
    let below : ℕ = k.count - 2 in
    let top : ℕ = k.count - 1 in
    let tables : List ℕ = t.tables.now in
    let L : List ℕ → Bool = says k tables below in
    let M : List ℕ → Bool = says k tables top in
    let pass = c.in_ok-may_join.ensures in
    let two : 2 ≤ k.count = not_below k.count 2 pass.1.0 in
    let above : below + 1 ≡ top = omega arith in
    let low = t.live below (omega arith) in
    let up = t.live top (omega arith) in
    let m = pairs_of k.sets c.args.join (size_of k below) (rows_of k tables below) (size_of k top) (rows_of k tables top) in
    let known = pairs_known k.sets c.args.join c.rows.result c.rows-2.result (size_of k below) (rows_of k tables below) (size_of k top) (rows_of k tables top)
    c.rows.ensures.places c.rows.ensures.states c.rows.ensures.cells
    c.rows-2.ensures.places (c.rows-2.ensures.states ∙ ap (size_of k) above) (c.rows-2.ensures.cells ∙ ap (rows_of k tables) above) in
    refused (join_checks k.budget k.count (length c.args.records.now) (length c.args.links.now)) k.sets k.budget below (SamePair k.sets L M) (Joins c.args.join L M)
    k tables c.from_residual-in_err-counts.result c.in_err-counts.field-0.0 c.from_residual-in_err-counts.ensures.1 pass
    (too_many_met m k.sets k.budget (SamePair k.sets L M) c.in_err-counts.field-0.0
    (same_pairs k.sets L M (rows_of k tables below) (size_of k below) (table_in k tables below low) (rows_of k tables top) (size_of k top) (table_in k tables top up) (joined c.args.join))
    (subst (λ x. Aside x k.sets k.budget (drop (slot k) c.explore.new.spare) (Err c.in_err-counts.field-0.0)) known c.in_err-counts.ensures))

pub invariant_of-self-2-clause-live : goal.invariant_of-self-2-clause-live
invariant_of-self-2-clause-live c =
    let t = c.args.self.now in
    let k = t.control in
    let below : ℕ = k.count - 2 in
    let top : ℕ = k.count - 1 in
    let tables : List ℕ = t.tables.now in
    let L : List ℕ → Bool = says k tables below in
    let M : List ℕ → Bool = says k tables top in
    let pass = c.in_ok-may_join.ensures in
    let two : 2 ≤ k.count = not_below k.count 2 pass.1.0 in
    let above : below + 1 ≡ top = omega arith in
    let low = t.live below (omega arith) in
    let up = t.live top (omega arith) in
    let m = pairs_of k.sets c.args.join (size_of k below) (rows_of k tables below) (size_of k top) (rows_of k tables top) in
    let known = pairs_known k.sets c.args.join c.rows.result c.rows-2.result (size_of k below) (rows_of k tables below) (size_of k top) (rows_of k tables top)
    c.rows.ensures.places c.rows.ensures.states c.rows.ensures.cells
    c.rows-2.ensures.places (c.rows-2.ensures.states ∙ ap (size_of k) above) (c.rows-2.ensures.cells ∙ ap (rows_of k tables) above) in
    let met : ℕ = c.in_ok-counts.counts.met in
    let size : ℕ = c.in_ok-counts.counts.kept in
    let found = subst (λ x. Aside x k.sets k.budget (drop (slot k) c.explore.new.spare) (Ok c.in_ok-counts.counts)) known c.in_ok-counts.ensures in
    let counted = join_counts k.sets c.args.join (size_of k below) (rows_of k tables below) (size_of k top) (rows_of k tables top)
    (table_in k tables below low) (table_in k tables top up) met found.2 in
    let landed : Lands k.sets k.budget (below * slot k) (SamePair k.sets L M) (Joins c.args.join L M) tables c.land.new.tables met size =
    lands k.sets k.budget (below * slot k) (SamePair k.sets L M) (Joins c.args.join L M) (language m) (drop (slot k) c.explore.new.spare) tables c.land.new.tables met size
    found.0 found.1 counted found.3 c.land.ensures.copied c.land.ensures.elsewhere
    (λ w _. join_means k.sets c.args.join (size_of k below) (rows_of k tables below) (size_of k top) (rows_of k tables top) w) in
    let call = landed_call t below (SamePair k.sets L M) (Joins c.args.join L M) (omega (arith, t.holds)) (omega arith)
    (joins_move k.sets c.args.join L M (by_sets_in k tables below low) (by_sets_in k tables top up)) c.land.new.tables met size landed c.land.new.self c.land.ensures.control in
    call.0

pub returns-clause-joins : goal.returns-clause-joins
returns-clause-joins c =
    let t = c.args.self.now in
    let k = t.control in
    let below : ℕ = k.count - 2 in
    let top : ℕ = k.count - 1 in
    let tables : List ℕ = t.tables.now in
    let L : List ℕ → Bool = says k tables below in
    let M : List ℕ → Bool = says k tables top in
    let pass = c.in_ok-may_join.ensures in
    let two : 2 ≤ k.count = not_below k.count 2 pass.1.0 in
    let above : below + 1 ≡ top = omega arith in
    let low = t.live below (omega arith) in
    let up = t.live top (omega arith) in
    let m = pairs_of k.sets c.args.join (size_of k below) (rows_of k tables below) (size_of k top) (rows_of k tables top) in
    let known = pairs_known k.sets c.args.join c.rows.result c.rows-2.result (size_of k below) (rows_of k tables below) (size_of k top) (rows_of k tables top)
    c.rows.ensures.places c.rows.ensures.states c.rows.ensures.cells
    c.rows-2.ensures.places (c.rows-2.ensures.states ∙ ap (size_of k) above) (c.rows-2.ensures.cells ∙ ap (rows_of k tables) above) in
    let met : ℕ = c.in_ok-counts.counts.met in
    let size : ℕ = c.in_ok-counts.counts.kept in
    let found = subst (λ x. Aside x k.sets k.budget (drop (slot k) c.explore.new.spare) (Ok c.in_ok-counts.counts)) known c.in_ok-counts.ensures in
    let counted = join_counts k.sets c.args.join (size_of k below) (rows_of k tables below) (size_of k top) (rows_of k tables top)
    (table_in k tables below low) (table_in k tables top up) met found.2 in
    let landed : Lands k.sets k.budget (below * slot k) (SamePair k.sets L M) (Joins c.args.join L M) tables c.land.new.tables met size =
    lands k.sets k.budget (below * slot k) (SamePair k.sets L M) (Joins c.args.join L M) (language m) (drop (slot k) c.explore.new.spare) tables c.land.new.tables met size
    found.0 found.1 counted found.3 c.land.ensures.copied c.land.ensures.elsewhere
    (λ w _. join_means k.sets c.args.join (size_of k below) (rows_of k tables below) (size_of k top) (rows_of k tables top) w) in
    let call = landed_call t below (SamePair k.sets L M) (Joins c.args.join L M) (omega (arith, t.holds)) (omega arith)
    (joins_move k.sets c.args.join L M (by_sets_in k tables below low) (by_sets_in k tables top up)) c.land.new.tables met size landed c.land.new.self c.land.ensures.control in
    accepted (join_checks k.budget k.count (length c.args.records.now) (length c.args.links.now)) below (SamePair k.sets L M) (Joins c.args.join L M)
    k tables c.land.new.self c.land.new.tables met size c.land.result c.land.ensures.counts (pair_equality k.sets L M) pass call.1
