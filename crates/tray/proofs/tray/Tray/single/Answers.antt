use Rattle.std.proofs.Common.{drop, ℕ, ◌<◌, ◌≤◌, [], ◌∷◌, Ok, sym, subst, arith}
use Rattle.words.specs.Automata.{language}
use Rattle.tray.specs.Asked.{asked, SameBookState}
use Rattle.tray.specs.Calls.{Singles}
use Rattle.tray.specs.View.{slot}
use Rattle.tray.proofs.Askings.{same_asked}
use Rattle.tray.proofs.Landings.{too_many_met}
use Rattle.tray.proofs.Singles.{exactly, one_means, not_four, three_states, single_call}
use Rattle.tray.proofs.tray.Tray.single.Goals as goal

-- there is room for three states, and there are no more
pub returns-in_err-counts-clause-singles : goal.returns-in_err-counts-clause-singles
returns-in_err-counts-clause-singles c =
    let t = c.args.self.now in
    let k = t.control in
    let i : ℕ = c.args.set in
    let there : i < k.sets = c.if-set-control.false in
    let high : k.count < k.depth = c.if-control.false in
    let enough : 3 ≤ k.budget = omega (arith, c.if-control-lt-STATES.false) in
    let refused = too_many_met (asked exactly (i ∷ [])) k.sets 3 (SameBookState exactly (i ∷ [])) c.in_err-counts.field-0.0
    (λ u w _ _. same_asked exactly (i ∷ []) u w) c.in_err-counts.ensures in
    absurd (not_four k.sets i refused.1)

pub invariant_of-self-2-clause-live : goal.invariant_of-self-2-clause-live
invariant_of-self-2-clause-live c =
    let t = c.args.self.now in
    let k = t.control in
    let i : ℕ = c.args.set in
    let there : i < k.sets = c.if-set-control.false in
    let high : k.count < k.depth = c.if-control.false in
    let enough : 3 ≤ k.budget = omega (arith, c.if-control-lt-STATES.false) in
    let found = c.in_ok-counts.ensures in
    let three = three_states t i there high enough (language (asked exactly (i ∷ []))) (drop (slot k) c.explore.new.spare) c.land.new.tables c.in_ok-counts.counts.met c.in_ok-counts.counts.kept
    found.0 found.1 found.3 (one_means i) c.land.ensures.copied c.land.ensures.elsewhere in
    let call = single_call t i there high enough (language (asked exactly (i ∷ []))) (drop (slot k) c.explore.new.spare) c.land.new.tables c.in_ok-counts.counts.met c.in_ok-counts.counts.kept
    found.0 found.1 found.3 (one_means i) c.land.ensures.copied c.land.ensures.elsewhere c.land.new.self c.land.ensures.control in
    call.0

pub returns-clause-singles : goal.returns-clause-singles
returns-clause-singles c =
    let t = c.args.self.now in
    let k = t.control in
    let i : ℕ = c.args.set in
    let there : i < k.sets = c.if-set-control.false in
    let high : k.count < k.depth = c.if-control.false in
    let enough : 3 ≤ k.budget = omega (arith, c.if-control-lt-STATES.false) in
    let found = c.in_ok-counts.ensures in
    let three = three_states t i there high enough (language (asked exactly (i ∷ []))) (drop (slot k) c.explore.new.spare) c.land.new.tables c.in_ok-counts.counts.met c.in_ok-counts.counts.kept
    found.0 found.1 found.3 (one_means i) c.land.ensures.copied c.land.ensures.elsewhere in
    let call = single_call t i there high enough (language (asked exactly (i ∷ []))) (drop (slot k) c.explore.new.spare) c.land.new.tables c.in_ok-counts.counts.met c.in_ok-counts.counts.kept
    found.0 found.1 found.3 (one_means i) c.land.ensures.copied c.land.ensures.elsewhere c.land.new.self c.land.ensures.control in
    subst (λ r. Singles i k t.tables.now c.land.new.self c.land.new.tables (Ok r)) (sym c.land.ensures.counts) (
      three.0,
      three.1,
      (((λ l. omega (arith, there)), ((λ l. omega (arith, high)), ((λ l. omega (arith, enough)), tt))), call.1),
    )
