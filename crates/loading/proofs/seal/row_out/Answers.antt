use Rattle.std.proofs.Common.{ℕ, rules}
use Rattle.std.proofs.lemmas.Iterator.{first_from_Range}
use Rattle.loading.specs.Drafts.{LeadsOut}
use Rattle.loading.proofs.Found.{found}
use Rattle.loading.proofs.seal.row_out.Goals as goal

pub returns : goal.returns
returns c =
    let rows = c.args.rows.now in
    let Out : ℕ → Type 0 = LeadsOut rows.places rows.states rows.cells.now in
    found rows.states Out (λ r. Out r → ⊥) _ _
    (first_from_Range _ _ _ _ Out (λ r. Out r → ⊥) c.find.ensures.ran (λ x q k. search rules) (λ x q k. (search rules, search rules)))
