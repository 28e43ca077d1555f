use Rattle.std.proofs.Common.{◌≡◌, ◌≢◌, rules, tests, arith}
use Rattle.std.proofs.lemmas.Iterator.{first_from_Range}
use Rattle.words.specs.Described.{described}
use Rattle.judging.proofs.Finding.{lowest_found}
use Rattle.judging.proofs.verdict.lowest_state.Goals as goal

pub returns : goal.returns
returns c =
    let a = described c.args.rows.now in
    let b = c.args.accepting in
    lowest_found a b _
    (first_from_Range _ _ _ _ (λ s. a.accepts s ≡ b) (λ s. a.accepts s ≢ b) c.find.ensures.ran
    (λ x q k. grind (arith, tests))
    (λ x q k. (search rules, grind (arith, tests))))
