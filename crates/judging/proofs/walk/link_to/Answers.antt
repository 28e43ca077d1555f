use Rattle.std.proofs.Common.{◌≡◌, Some, None, rules}
use Rattle.words.specs.Described.{described}
use Rattle.judging.specs.Walk.{FirstColumn}
use Rattle.judging.proofs.Finding.{first_pair_found}
use Rattle.judging.proofs.Mapped.{first_from_find_map}
use Rattle.judging.proofs.walk.link_to.Goals as goal

pub returns : goal.returns
returns c =
    let a = described c.args.rows.now in
    let j = c.args.state in
    first_pair_found a j _
    (first_from_find_map _ (λ x r q k. search rules) (λ r link. (link.row ≡ r) × FirstColumn a j r (Some link.column)) (λ r. FirstColumn a j r None)
    (λ x y k. search rules)
    (λ x k. search rules) _ _ c.find_map.ensures.runs)
