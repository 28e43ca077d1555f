use Rattle.std.proofs.Common.{ℕ, ◌<◌, ◌≤◌, MatchOption, subst, rules, tests, arith}
use Rattle.std.proofs.lemmas.Iterator.{first_from_Range}
use Rattle.words.specs.Rows.{next_of}
use Rattle.loading.proofs.Found.{found}
use Rattle.loading.proofs.seal.column_out.Goals as goal

pub returns : goal.returns
returns c =
    let rows = c.args.rows.now in
    let next : ℕ → ℕ = next_of rows.places rows.cells.now c.args.row in
    subst (λ n. MatchOption c.find.result ((k : ℕ) → k < n → next k < rows.states) (λ k. (k < n) × (rows.states ≤ next k))) c.columns.ensures.columns
    (found c.columns.result (λ k. rows.states ≤ next k) (λ k. next k < rows.states) _ _
    (first_from_Range _ _ _ _ (λ k. rows.states ≤ next k) (λ k. next k < rows.states) c.find.ensures.ran
    (λ x q k. grind (arith, tests))
    (λ x q k. (search rules, grind (arith, tests)))))
