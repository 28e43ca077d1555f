use Rattle.std.proofs.Common.{◌≡◌, ℕ, ◌+◌, ◌*◌, ◌<◌, ◌∙◌, get_or, length, Some, None, refl, sym, subst, arith}
use Rattle.std.proofs.lemmas.Result.{err_from_is_err_and}
use Rattle.grammar.specs.Limits.{most_sets}
use Rattle.grammar.specs.Claims.{Claim}
use Rattle.grammar.proofs.Keeping.{same_later}
use Rattle.grammar.proofs.Positions.{Positioned, more_fault, begin_positions, none_here, one_here, positions_planned}
use Rattle.grammar.proofs.planning.plan_formula.Goals as goal
use Rattle.grammar.proofs.planning.plan_formula.Goals.{in-Some, in_default}

pub returns-in_err-finish-clause-plans : goal.returns-in_err-finish-clause-plans
returns-in_err-finish-clause-plans c =
    let given = err_from_is_err_and c.from_residual-in_err-finish.result c.from_residual-in_err-finish.ensures.1 in
    let read = c.in_ok-next.ensures.reads in
    rw (given.1, given.2) (
      more_fault c.args.source.now c.args.plan.now c.read_formula.new.plan c.in_ok-next.next read.0 read.1 c.requires.empty c.in_err-finish.field-0.0
          c.in_err-finish.ensures,
      same_later c.read_formula.new.plan.used (3 * length c.args.source.now.items.now)
          (omega (arith, read.1.room.2, read.1.room.0, c.requires.empty)) c.args.plan.now.steps.now c.read_formula.new.plan.steps.now read.1.room.3,
    )

pub loop-set-init : goal.loop-set-init
loop-set-init c =
    let read = c.in_ok-next.ensures.reads in (
      refl,
      read.0,
      begin_positions c.args.source.now c.args.plan.now c.read_formula.new.plan c.in_ok-next.next read.0 read.1 c.requires.empty _ (omega arith)
          c.requires.none c.in_ok-finish.ensures,
    )

pub loop-set-preserved : goal.loop-set-preserved
loop-set-preserved c =
    let s = c.args.source.now in
    let k : ℕ = c.loop-set.set in
    let start = c.read_formula.new.plan in
    let p = c.loop-set.plan in
    let before = c.loop-set.invariant in
    let low : k < most_sets = omega (arith, c.loop-set-test.true, c.requires.sets) in
    elim c.match-plan-from.branch [
      | in-Some w ↦
          let there : get_or p.free k None ≡ Some w.in-Some.place = subst (λ j. get_or p.free j None ≡ Some w.in-Some.place) c.from.ensures w.in-Some.is in
          subst (λ q. (q.steps.ghost_name ≡ c.read_formula.new.plan.steps.ghost_name) × (f : Claim) × Positioned s start (k + 1) q f) (sym w.plan-is) (
            w.alone.ensures.owner ∙ before.0,
            before.1,
            one_here s start k p before.1 before.2 low w.in-Some.place w.alone.new.self there
                w.alone.ensures.writes,
          )
      | in_default w ↦
          let none : get_or p.free k None ≡ None = subst (λ j. get_or p.free j None ≡ None) c.from.ensures w.in_default.is in
          subst (λ q. (q.steps.ghost_name ≡ c.read_formula.new.plan.steps.ghost_name) × (f : Claim) × Positioned s start (k + 1) q f) (sym w.plan-is)
          (before.0, before.1, none_here s start k p before.1 before.2 low none)
    ]

pub returns-clause-plans : goal.returns-clause-plans
returns-clause-plans c =
    let s = c.args.source.now in
    let start = c.read_formula.new.plan in
    let end = c.loop-set.plan in
    let read = c.in_ok-next.ensures.reads in
    let planned = c.loop-set.invariant in
    let all : c.loop-set.set ≡ s.sets = omega (arith, c.loop-set-test.false, c.loop-set.auto.set-end) in
    positions_planned s c.args.plan.now start end c.in_ok-next.next read.0 planned.1 read.1
    (subst (λ k. Positioned s start k end planned.1) all planned.2)
