use Rattle.std.proofs.Common.{◌≡◌, ℕ, ◌*◌, ◌<◌, List, map, length, drop, arith}
use Rattle.words.specs.Words.{coded}
use Rattle.words.specs.Automata.{SameReach, language}
use Rattle.words.proofs.Pairing.{count_same}
use Rattle.tray.specs.Asked.{asked, SameBookState}
use Rattle.tray.specs.Calls.{place_checks}
use Rattle.tray.specs.View.{slot}
use Rattle.tray.proofs.Askings.{asked_same, same_asked, asked_means, book_equality, all_there, listed_moves}
use Rattle.tray.proofs.Builts.{landed_call}
use Rattle.tray.proofs.Checking.{must_equal, not_above}
use Rattle.tray.proofs.Landings.{Lands, lands, too_many_met, refused, accepted}
use Rattle.tray.proofs.tray.Tray.place.Goals as goal

pub returns-in_err-counts-clause-places : goal.returns-in_err-counts-clause-places
returns-in_err-counts-clause-places g c =
    let t = c.args.self.now in
    let k = t.control in
    let a = g.B.Book.automaton c.args.book.now c.args.predicate in
    let holds = g.B.Book.holds c.args.book.now c.args.predicate in
    let listed : List ℕ = c.args.listed.now in
    let pass = c.in_ok-may_place.ensures in
    refused
    (place_checks k.sets k.budget k.depth k.count (length c.args.records.now) (length c.args.links.now) (g.B.Book.size c.args.book.now) a.places c.args.predicate listed)
    k.sets k.budget k.count (SameBookState a listed) (λ w. holds (map (λ i. coded i w) listed)) k t.tables.now
    c.from_residual-in_err-counts.result c.in_err-counts.field-0.0 c.from_residual-in_err-counts.ensures.1 pass
    (too_many_met (asked a listed) k.sets k.budget (SameBookState a listed) c.in_err-counts.field-0.0 (λ u w _ _. same_asked a listed u w) c.in_err-counts.ensures)

pub invariant_of-self-2-clause-live : goal.invariant_of-self-2-clause-live
invariant_of-self-2-clause-live g c =
    let t = c.args.self.now in
    let k = t.control in
    let a = g.B.Book.automaton c.args.book.now c.args.predicate in
    let holds = g.B.Book.holds c.args.book.now c.args.predicate in
    let listed : List ℕ = c.args.listed.now in
    let pass = c.in_ok-may_place.ensures in
    let places : length listed ≡ a.places = must_equal (length listed) a.places pass.1.1.0 in
    let below : c.args.predicate < g.B.Book.size c.args.book.now = not_above (g.B.Book.size c.args.book.now) c.args.predicate pass.1.0 in
    let high = not_above k.depth k.count pass.1.1.1.1.0 in
    let found = c.in_ok-counts.ensures in
    let met : ℕ = c.in_ok-counts.counts.met in
    let size : ℕ = c.in_ok-counts.counts.kept in
    let Means : List ℕ → Type 0 = λ w. holds (map (λ i. coded i w) listed) in
    let counted = count_same k.sets (SameReach (asked a listed)) (SameBookState a listed) met (λ u w _ _. asked_same a listed u w) (λ u w _ _. same_asked a listed u w) found.2 in
    let landed : Lands k.sets k.budget (k.count * slot k) (SameBookState a listed) Means t.tables.now c.land.new.tables met size =
    lands k.sets k.budget (k.count * slot k) (SameBookState a listed) Means (language (asked a listed)) (drop (slot k) c.explore.new.spare) t.tables.now c.land.new.tables met size
    found.0 found.1 counted found.3 c.land.ensures.copied c.land.ensures.elsewhere
    (λ w _. asked_means a listed holds ((g.B.Book.rule c.args.book.now).recognizes c.args.predicate below) places w) in
    let call = landed_call t k.count (SameBookState a listed) Means high (omega arith) (listed_moves k.sets holds listed (all_there k.sets listed pass.1.1.1.0))
    c.land.new.tables met size landed c.land.new.self c.land.ensures.control in
    call.0

pub returns-clause-places : goal.returns-clause-places
returns-clause-places g c =
    let t = c.args.self.now in
    let k = t.control in
    let a = g.B.Book.automaton c.args.book.now c.args.predicate in
    let holds = g.B.Book.holds c.args.book.now c.args.predicate in
    let listed : List ℕ = c.args.listed.now in
    let pass = c.in_ok-may_place.ensures in
    let places : length listed ≡ a.places = must_equal (length listed) a.places pass.1.1.0 in
    let below : c.args.predicate < g.B.Book.size c.args.book.now = not_above (g.B.Book.size c.args.book.now) c.args.predicate pass.1.0 in
    let high = not_above k.depth k.count pass.1.1.1.1.0 in
    let found = c.in_ok-counts.ensures in
    let met : ℕ = c.in_ok-counts.counts.met in
    let size : ℕ = c.in_ok-counts.counts.kept in
    let Means : List ℕ → Type 0 = λ w. holds (map (λ i. coded i w) listed) in
    let counted = count_same k.sets (SameReach (asked a listed)) (SameBookState a listed) met (λ u w _ _. asked_same a listed u w) (λ u w _ _. same_asked a listed u w) found.2 in
    let landed : Lands k.sets k.budget (k.count * slot k) (SameBookState a listed) Means t.tables.now c.land.new.tables met size =
    lands k.sets k.budget (k.count * slot k) (SameBookState a listed) Means (language (asked a listed)) (drop (slot k) c.explore.new.spare) t.tables.now c.land.new.tables met size
    found.0 found.1 counted found.3 c.land.ensures.copied c.land.ensures.elsewhere
    (λ w _. asked_means a listed holds ((g.B.Book.rule c.args.book.now).recognizes c.args.predicate below) places w) in
    let call = landed_call t k.count (SameBookState a listed) Means high (omega arith) (listed_moves k.sets holds listed (all_there k.sets listed pass.1.1.1.0))
    c.land.new.tables met size landed c.land.new.self c.land.ensures.control in
    accepted
    (place_checks k.sets k.budget k.depth k.count (length c.args.records.now) (length c.args.links.now) (g.B.Book.size c.args.book.now) a.places c.args.predicate listed)
    k.count (SameBookState a listed) Means k t.tables.now c.land.new.self c.land.new.tables met size c.land.result c.land.ensures.counts (book_equality a listed) pass call.1
