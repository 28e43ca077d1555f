use Rattle.std.proofs.Common.{ℕ, ◌^◌, ◌<◌, ◌≤◌, Decides, sym, subst, arith}
use Rattle.words.specs.Rows.{next_of}
use Rattle.loading.specs.Drafts.{LeadsOut}
use Rattle.loading.proofs.Found.{is_found}
use Rattle.loading.proofs.seal.leads_out.Goals as goal

pub returns : goal.returns
returns c =
    let rows = c.args.rows.now in
    let next : ℕ → ℕ = next_of rows.places rows.cells.now c.args.row in
    subst (λ b. Decides b (LeadsOut rows.places rows.states rows.cells.now c.args.row)) (sym c.is_some.ensures)
    (is_found ((k : ℕ) → k < 2 ^ rows.places → next k < rows.states) (λ k. (k < 2 ^ rows.places) × (rows.states ≤ next k)) c.column_out.result c.column_out.ensures
    (λ none some. omega (arith, none some.0 some.1.0, some.1.1)))
