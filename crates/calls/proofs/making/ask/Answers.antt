use Rattle.std.proofs.Common.{◌≡◌, ◌*◌, length, arith, refl}
use Rattle.calls.proofs.making.ask.Goals as goal

pub returns-in-Place-clause-makes : goal.returns-in-Place-clause-makes
returns-in-Place-clause-makes g c =
    let records : length c.args.work.now.states ≡ g.row.STATES = omega arith in
    let links : length c.as_flattened_mut-links.result.now ≡ 8 * g.row.LINKS = omega (arith, c.as_flattened_mut-links.ensures.len) in
    rw c.in-Place.is (c.place.result, c.from.ensures, rw (← links) (rw (← records) c.place.ensures.places), refl)

pub returns-in-Both-clause-makes : goal.returns-in-Both-clause-makes
returns-in-Both-clause-makes g c =
    let records : length c.args.work.now.pairs ≡ g.row.PAIRS = omega arith in
    let links : length c.as_flattened_mut-links.result.now ≡ 8 * g.row.LINKS = omega (arith, c.as_flattened_mut-links.ensures.len) in
    rw c.in-Both.is (c.both.result, c.from-in-Both.ensures, rw (← links) (rw (← records) c.both.ensures.joins), refl)

pub returns-in-Either-clause-makes : goal.returns-in-Either-clause-makes
returns-in-Either-clause-makes g c =
    let records : length c.args.work.now.pairs ≡ g.row.PAIRS = omega arith in
    let links : length c.as_flattened_mut-links.result.now ≡ 8 * g.row.LINKS = omega (arith, c.as_flattened_mut-links.ensures.len) in
    rw c.in-Either.is (c.either.result, c.from-in-Either.ensures, rw (← links) (rw (← records) c.either.ensures.joins), refl)

pub returns-in-Hide-clause-makes : goal.returns-in-Hide-clause-makes
returns-in-Hide-clause-makes g c =
    let records : length c.args.work.now.sets ≡ g.row.SETS = omega arith in
    let links : length c.as_flattened_mut-links.result.now ≡ 8 * g.row.LINKS = omega (arith, c.as_flattened_mut-links.ensures.len) in
    rw c.in-Hide.is (c.hide.result, c.from-in-Hide.ensures, rw (← links) (rw (← records) c.hide.ensures.hides), refl)
