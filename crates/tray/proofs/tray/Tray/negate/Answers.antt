use Rattle.std.proofs.Common.{◌≡◌, ℕ, ◌-◌, ◌≤◌, Bool, true, List, sym, refl, subst, arith}
use Rattle.words.specs.Residuals.{SameResidual}
use Rattle.tray.specs.Building.{Built}
use Rattle.tray.specs.View.{size_of, says}
use Rattle.tray.proofs.Builts.{landed_call, fits_slot}
use Rattle.tray.proofs.Negatings.{negated, not_moves, same_control}
use Rattle.tray.proofs.Recovering.{table_in, by_sets_in}
use Rattle.tray.proofs.tray.Tray.negate.Goals as goal

pub turn_over-requires-clause-fits : goal.turn_over-requires-clause-fits
turn_over-requires-clause-fits c =
    let t = c.args.self.now in
    let some : 1 ≤ t.control.count = c.if-control-lt1.false in
    fits_slot t.control t.tables.now (t.control.count - 1) (t.live (t.control.count - 1) (omega arith))

pub invariant_of-self-2-clause-live : goal.invariant_of-self-2-clause-live
invariant_of-self-2-clause-live c =
    let t = c.args.self.now in
    let k = t.control in
    let top : ℕ = k.count - 1 in
    let L : List ℕ → Bool = says k t.tables.now top in
    let some : 1 ≤ k.count = c.if-control-lt1.false in
    let stands = t.live top (omega arith) in
    let landed = negated k t.tables.now c.turn_over.new.tables top (fits_slot k t.tables.now top stands) (table_in k t.tables.now top stands) c.turn_over.ensures in
    let call = landed_call t top (SameResidual k.sets L) (λ w. L w ≡ true → ⊥) (omega (arith, t.holds)) (omega arith) (not_moves k.sets L (by_sets_in k t.tables.now top stands))
    c.turn_over.new.tables (size_of k top) (size_of k top) landed k (sym (same_control k (size_of k top) some refl)) in
    call.0

pub returns-clause-negates : goal.returns-clause-negates
returns-clause-negates c =
    let t = c.args.self.now in
    let k = t.control in
    let top : ℕ = k.count - 1 in
    let L : List ℕ → Bool = says k t.tables.now top in
    let some : 1 ≤ k.count = c.if-control-lt1.false in
    let stands = t.live top (omega arith) in
    let landed = negated k t.tables.now c.turn_over.new.tables top (fits_slot k t.tables.now top stands) (table_in k t.tables.now top stands) c.turn_over.ensures in
    let call = landed_call t top (SameResidual k.sets L) (λ w. L w ≡ true → ⊥) (omega (arith, t.holds)) (omega arith) (not_moves k.sets L (by_sets_in k t.tables.now top stands))
    c.turn_over.new.tables (size_of k top) (size_of k top) landed k (sym (same_control k (size_of k top) some refl)) in (
      ((λ l. omega arith), tt),
      subst (λ s. Built top (SameResidual k.sets L) (λ w. L w ≡ true → ⊥) s s k t.tables.now k c.turn_over.new.tables) (sym c.from-size.ensures) call.1,
    )
