use Rattle.std.proofs.Common.{refl, arith, rules, tests, slice_index}
use Rattle.words.specs.Described.{described}
use Rattle.words.proofs.Merging.{Alike}
use Rattle.tables.proofs.Lows.{lowest_from_find}
use Rattle.tables.proofs.merging.Classes.lowest_alike.Goals as goal

pub returns : goal.returns
returns c =
    let k = c.args.self.now in
    lowest_from_find (Alike (described k.rows).step (slice_index k.class.now) c.args.column c.args.s) _ c.args.s (refl, refl)
    (λ u h e. omega (arith, e.0, c.requires.here, k.classed.low c.args.s c.requires.here, k.classed.low u))
    _ _ c.find.result c.find.ensures.ran (λ x q k. search (rules, tests)) (λ x q k. search (rules, tests)) c.unwrap_or.result c.unwrap_or.ensures
