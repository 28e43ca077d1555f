use Rattle.std.proofs.Common.{◌≡◌, ◌%◌, rules, tests, arith}
use Rattle.std.proofs.lemmas.Nat.{one_shl}
use Rattle.std.proofs.lemmas.Iterator.{first_from_find, YieldsList-from_map, YieldsList-from_range}
use Rattle.words.specs.Described.{described}
use Rattle.words.specs.Order.{nth_column}
use Rattle.judging.proofs.Finding.{first_column, Other}
use Rattle.judging.proofs.walk.column_to.Goals as goal

pub returns : goal.returns
returns c =
    let rows = c.args.rows.now in
    let a = described rows in
    first_column a rows.few c.args.state c.args.row _ (one_shl rows.places 64 (omega (arith, rows.few))) _
    (first_from_find _ _ _ (λ d. a.step c.args.row d ≡ c.args.state) (Other a rows.few c.args.state c.args.row) c.find.ensures.ran
    (YieldsList-from_map _ (λ k. nth_column rows.places (k % 256)) (YieldsList-from_range 0 _ _ c.map.ensures.source (omega arith)) c.map.ensures.closure (λ x r q k. search rules))
    (λ x q k. grind (arith, tests))
    (λ x q k. (search rules, grind (arith, tests))))
