use Rattle.std.proofs.Common.{◌≡◌, refl, arith, rules, tests}
use Rattle.words.specs.Described.{described}
use Rattle.tables.proofs.Lows.{lowest_from_find}
use Rattle.tables.proofs.merging.lowest_marked.Goals as goal

pub returns : goal.returns
returns c =
    let a = described c.args.rows.now in
    lowest_from_find (λ t. a.accepts t ≡ a.accepts c.args.s) _ c.args.s refl (λ u h. absurd (omega arith)) _ _ c.find.result c.find.ensures.ran
    (λ x q k. search (rules, tests)) (λ x q k. search (rules, tests)) c.unwrap_or.result c.unwrap_or.ensures
