use Rattle.std.proofs.Common.{ℕ, ◌<◌, rules, tests, arith}
use Rattle.std.proofs.lemmas.Iterator.{first_from_Range}
use Rattle.words.specs.Rows.{mark_of}
use Rattle.loading.proofs.Found.{found}
use Rattle.loading.proofs.seal.first_wrong_mark.Goals as goal

pub returns : goal.returns
returns c =
    let rows = c.args.rows.now in
    let Wrong : ℕ → Type 0 = λ r. 1 < mark_of rows.places rows.cells.now r in
    found rows.states Wrong (λ r. Wrong r → ⊥) _ _
    (first_from_Range _ _ _ _ Wrong (λ r. Wrong r → ⊥) c.find.ensures.ran (λ x q k. grind (arith, tests)) (λ x q k. (search rules, grind (arith, tests))))
