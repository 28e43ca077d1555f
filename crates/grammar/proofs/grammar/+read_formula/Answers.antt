use Rattle.std.proofs.Common.{◌≡◌, ℕ, ◌+◌, ◌*◌, ◌<◌, ◌≤◌, ◌∷◌, ◌++◌, length, take, map, All, sym, subst, arith}
use Rattle.std.proofs.lemmas.Result.{err_from_is_err_and}
use Rattle.grammar.proofs.Composing.{opened_as, connected, bound_by, denial_fault, denial_read, left_fault, right_fault, connected_read, part_fault, quantified_read, atom_read, variable_here, between_few}
use Rattle.grammar.proofs.Keeping.{same_later, same_then}
use Rattle.grammar.specs.Claims.{denial, atom, name_item, variable_item}
use Rattle.grammar.specs.Sources.{left_of}
use Rattle.grammar.specs.Written.{SameBehind}
use Rattle.grammar.proofs.grammar.+read_formula.Goals as goal

pub returns-in_err-next-in-Denial-clause-reads : goal.returns-in_err-next-in-Denial-clause-reads
returns-in_err-next-in-Denial-clause-reads t c =
    let s = c.args.source.now in
    let at = c.args.at in
    let o = c.in_ok-place.field-0 in
    let begun = c.in_ok-place.ensures in
    let given = err_from_is_err_and c.from_residual-in_err-next-in-Denial.result c.from_residual-in_err-next-in-Denial.ensures.1 in
    let fails = c.in_err-next-in-Denial.ensures.reads in
    rw (given.1, given.2) (
      denial_fault s c.args.left c.args.depth at o.place begun.1 (omega (arith, c.requires.nesting)) (opened_as s at o.place o.opening _ c.in-Denial.is begun.2)
          c.in_err-next-in-Denial.field-0.0 fails.0,
      fails.1,
    )

pub returns-in_ok-next-in-Denial-clause-reads : goal.returns-in_ok-next-in-Denial-clause-reads
returns-in_ok-next-in-Denial-clause-reads t c =
    let s = c.args.source.now in
    let at = c.args.at in
    let o = c.in_ok-place.field-0 in
    let begun = c.in_ok-place.ensures in
    let part = c.in_ok-next-in-Denial.ensures.reads in (
      denial o.place part.0,
      denial_read s c.args.left c.args.depth at o.place begun.1 (omega (arith, c.requires.nesting)) (opened_as s at o.place o.opening _ c.in-Denial.is begun.2)
          c.args.plan.now c.read_formula.new.plan c.push.new.self c.in_ok-next-in-Denial.next part.0 part.1 c.push.ensures.writes,
    )

pub returns-in_err-middle-in-Connective-clause-reads : goal.returns-in_err-middle-in-Connective-clause-reads
returns-in_err-middle-in-Connective-clause-reads t c =
    let s = c.args.source.now in
    let at = c.args.at in
    let o = c.in_ok-place.field-0 in
    let begun = c.in_ok-place.ensures in
    let given = err_from_is_err_and c.from_residual-in_err-middle-in-Connective.result c.from_residual-in_err-middle-in-Connective.ensures.1 in
    let fails = c.in_err-middle-in-Connective.ensures.reads in
    rw (given.1, given.2) (
      left_fault s c.args.left c.args.depth at o.place begun.1 (omega (arith, c.requires.nesting)) c.in-Connective.connective
          (opened_as s at o.place o.opening _ c.in-Connective.is begun.2) c.in_err-middle-in-Connective.field-0.0 fails.0,
      fails.1,
    )

pub returns-in_err-next-in-Connective-clause-reads : goal.returns-in_err-next-in-Connective-clause-reads
returns-in_err-next-in-Connective-clause-reads t c =
    let s = c.args.source.now in
    let at = c.args.at in
    let o = c.in_ok-place.field-0 in
    let begun = c.in_ok-place.ensures in
    let first = c.in_ok-middle-in-Connective.ensures.reads in
    let given = err_from_is_err_and c.from_residual-in_err-next-in-Connective.result c.from_residual-in_err-next-in-Connective.ensures.1 in
    let fails = c.in_err-next-in-Connective.ensures.reads in
    rw (given.1, given.2) (
      right_fault s c.args.left c.args.depth at o.place begun.1 (omega (arith, c.requires.nesting)) c.in-Connective.connective
          (opened_as s at o.place o.opening _ c.in-Connective.is begun.2) c.args.plan.now c.read_formula-in-Connective.new.plan
          c.in_ok-middle-in-Connective.middle
          first.0 c.in_err-next-in-Connective.field-0.0 first.1 fails.0,
      (let all : ℕ = 3 * length s.items.now in
          let p = c.args.plan.now in
          let q = c.read_formula-in-Connective.new.plan in
          let r = c.begin_right.new.self in
          let t = c.read_formula-in-Connective-2.new.plan in
          let behind = c.begin_right.ensures.writes.0 in
          let few = between_few o.place c.in-Connective.connective in
          let q-few : q.used + 3 ≤ all = omega (arith, c.requires.room.1, first.1.room.0, first.1.room.2) in
          let r-few : r.used ≤ all = omega (arith, q-few, behind.1, few) in
          same_then all p.steps.now q.steps.now t.steps.now (same_later q.used all (omega (arith, q-few)) p.steps.now q.steps.now first.1.room.3)
          (same_then all q.steps.now r.steps.now t.steps.now (same_later r.used all r-few q.steps.now r.steps.now behind.2) fails.1)),
    )

pub returns-in_ok-next-in-Connective-clause-reads : goal.returns-in_ok-next-in-Connective-clause-reads
returns-in_ok-next-in-Connective-clause-reads t c =
    let s = c.args.source.now in
    let at = c.args.at in
    let o = c.in_ok-place.field-0 in
    let begun = c.in_ok-place.ensures in
    let first = c.in_ok-middle-in-Connective.ensures.reads in
    let second = c.in_ok-next-in-Connective.ensures.reads in (
      connected o.place c.in-Connective.connective first.0 second.0,
      connected_read s c.args.left c.args.depth at o.place begun.1 (omega (arith, c.requires.nesting)) c.in-Connective.connective
          (opened_as s at o.place o.opening _ c.in-Connective.is begun.2) c.args.plan.now c.read_formula-in-Connective.new.plan c.begin_right.new.self
          c.read_formula-in-Connective-2.new.plan c.join.new.self c.in_ok-middle-in-Connective.middle c.in_ok-next-in-Connective.next first.0 second.0 first.1
          c.begin_right.ensures.writes second.1 c.join.ensures.writes,
    )

pub returns-in_err-next-in-Quantifier-clause-reads : goal.returns-in_err-next-in-Quantifier-clause-reads
returns-in_err-next-in-Quantifier-clause-reads t c =
    let s = c.args.source.now in
    let at = c.args.at in
    let o = c.in_ok-place.field-0 in
    let begun = c.in_ok-place.ensures in
    let x = c.in_ok-variable-in-Quantifier.variable in
    let found = c.in_ok-variable-in-Quantifier.ensures in
    let given = err_from_is_err_and c.from_residual-in_err-next-in-Quantifier.result c.from_residual-in_err-next-in-Quantifier.ensures.1 in
    let fails = c.in_err-next-in-Quantifier.ensures.reads in
    rw (given.1, given.2) (
      part_fault s c.args.left c.args.depth at o.place begun.1 (omega (arith, c.requires.nesting)) c.in-Quantifier.quantifier x
          (opened_as s at o.place o.opening _ c.in-Quantifier.is begun.2) (variable_here s at x found.1) found.2 c.in_err-next-in-Quantifier.field-0.0 fails.0,
      subst (λ m. SameBehind (3 * length s.items.now) m.now c.read_formula-in-Quantifier.new.plan.steps.now) c.bind.ensures.same.1 fails.1,
    )

pub returns-in_ok-next-in-Quantifier-clause-reads : goal.returns-in_ok-next-in-Quantifier-clause-reads
returns-in_ok-next-in-Quantifier-clause-reads t c =
    let s = c.args.source.now in
    let at = c.args.at in
    let o = c.in_ok-place.field-0 in
    let begun = c.in_ok-place.ensures in
    let x = c.in_ok-variable-in-Quantifier.variable in
    let found = c.in_ok-variable-in-Quantifier.ensures in
    let part = c.in_ok-next-in-Quantifier.ensures.reads in (
      bound_by o.place c.in-Quantifier.quantifier x part.0,
      quantified_read s c.args.left c.args.depth at o.place begun.1 (omega (arith, c.requires.nesting)) c.in-Quantifier.quantifier x
          (opened_as s at o.place o.opening _ c.in-Quantifier.is begun.2) (variable_here s at x found.1) found.2 c.args.plan.now c.bind.new.self
          c.read_formula-in-Quantifier.new.plan c.quantify.new.self c.in_ok-next-in-Quantifier.next part.0
          c.bind.ensures.deep c.bind.ensures.bound c.bind.ensures.same part.1
          c.quantify.ensures.writes,
    )

pub returns-in_ok-spots-in-Atom-clause-reads : goal.returns-in_ok-spots-in-Atom-clause-reads
returns-in_ok-spots-in-Atom-clause-reads t c =
    let s = c.args.source.now in
    let at = c.args.at in
    let o = c.in_ok-place.field-0 in
    let begun = c.in_ok-place.ensures in
    let found = c.in_ok-spots-in-Atom.ensures in
    let many = c.from-many.result in
    let is = c.from-many.ensures in
    let here = opened_as s at o.place o.opening _ c.in-Atom.is begun.2 in
    let few = c.requires.few at c.in-Atom.number c.in-Atom.places o.place (left_of s (at + 1)) here in (
      atom o.place c.in-Atom.number (take many c.in_ok-spots-in-Atom.spots),
      atom_read s c.args.left c.args.depth at o.place begun.1 (omega (arith, c.requires.nesting)) c.args.plan.now c.place.new.self c.in-Atom.number many
          c.in_ok-spots-in-Atom.spots (subst (λ k. left_of s at ≡ name_item o.place c.in-Atom.number k ∷ left_of s (at + 1)) (sym is) here)
          (omega (arith, is, few))
          found.0 (omega (arith, is, found.1))
          (subst (λ k. left_of s (at + 1) ≡ map variable_item (take k c.in_ok-spots-in-Atom.spots) ++ left_of s (at + 1 + k)) (sym is) found.2)
          (subst (λ k. All (λ x. x.set < s.sets) (take k c.in_ok-spots-in-Atom.spots)) (sym is) found.3) c.place.ensures.writes,
    )
