use Rattle.std.proofs.Common.{◌≡◌, ◌*◌, ℕ, List, length, take, min, arith, sym, ap, ap₂, ◌∙◌}
use Rattle.std.proofs.lemmas.List.{take_min}
use Rattle.reading.proofs.building.make_step.Goals as goal

pub returns-in-Place-clause-steps : goal.returns-in-Place-clause-steps
returns-in-Place-clause-steps g c =
    let sets : List ℕ = c.in-Place.sets in
    let places : ℕ = c.in-Place.places in
    let four : length sets ≡ 4 = omega arith in
    let records : length c.args.work.now.states ≡ g.row.STATES = omega arith in
    let links : length c.as_flattened_mut-links.result.now ≡ 8 * g.row.LINKS = omega (arith, c.as_flattened_mut-links.ensures.len) in
    let front : take c.min.result sets ≡ take places sets =
    ap (λ k. take k sets) (c.min.ensures ∙ ap₂ min c.from.ensures (sym four)) ∙ take_min places sets in
    rw c.in-Place.is (rw (← links) (rw (← records) (rw (← front) c.place.ensures.places)))

pub returns-in-Both-clause-steps : goal.returns-in-Both-clause-steps
returns-in-Both-clause-steps g c =
    let records : length c.args.work.now.pairs ≡ g.row.PAIRS = omega arith in
    let links : length c.as_flattened_mut-links.result.now ≡ 8 * g.row.LINKS = omega (arith, c.as_flattened_mut-links.ensures.len) in
    rw c.in-Both.is (rw (← links) (rw (← records) c.both.ensures.joins))

pub returns-in-Either-clause-steps : goal.returns-in-Either-clause-steps
returns-in-Either-clause-steps g c =
    let records : length c.args.work.now.pairs ≡ g.row.PAIRS = omega arith in
    let links : length c.as_flattened_mut-links.result.now ≡ 8 * g.row.LINKS = omega (arith, c.as_flattened_mut-links.ensures.len) in
    rw c.in-Either.is (rw (← links) (rw (← records) c.either.ensures.joins))

pub returns-in-Hide-clause-steps : goal.returns-in-Hide-clause-steps
returns-in-Hide-clause-steps g c =
    let records : length c.args.work.now.sets ≡ g.row.SETS = omega arith in
    let links : length c.as_flattened_mut-links.result.now ≡ 8 * g.row.LINKS = omega (arith, c.as_flattened_mut-links.ensures.len) in
    rw c.in-Hide.is (rw (← links) (rw (← records) c.hide.ensures.hides))
