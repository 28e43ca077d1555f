use Rattle.std.proofs.Common.{rules, ◌≡◌, ◌≤◌, true, false, length, get_or, All, Fits, refl, arith}
use mir.Syntax.{w16}
use Rattle.std.proofs.lemmas.List.Elements.{All-from_get_or}
use Rattle.loading.proofs.RowLines.{row_found, row_gathered}
use Rattle.loading.proofs.lines.row_in.Goals as goal
use Rattle.loading.proofs.lines.row_in.Goals.{then-values-state-via-then-values-state, then-values-state-via-else-values-state+then-values-gt1, then-values-state-via-else-values-state+else-values-gt1+then-not-is_line_of}

pub returns-then-values-state : goal.returns-then-values-state
returns-then-values-state c = λ cells row.
    let values = c.values_in-values.result in
    let long : length values ≡ 18 = omega arith in
    let is = row_gathered c.args.places c.args.state c.columns_over-columns.result c.columns_over-columns.ensures.columns c.args.line.now values long c.requires (omega arith)
    c.values_in-values.ensures cells row in
    elim c.then-values-state.branch [
      | then-values-state-via-then-values-state w ↦ w.if-values-state.true is.0
      | then-values-state-via-else-values-state+then-values-gt1 w ↦ omega (arith, is.1)
      | then-values-state-via-else-values-state+else-values-gt1+then-not-is_line_of w ↦ let wrong : false ≡ true = w.if-not-is_line_of.ensures.1 is.2 in cc
    ]

pub returns : goal.returns
returns c =
    let values = c.values_in-values.result in
    let long : length values ≡ 18 = omega arith in
    let small : All (λ v. v ≤ 65535) values = All-from_get_or (λ v. v ≤ 65535) values 0 (λ i low. let fits : Fits w16 (get_or values i 0) = search rules in omega (arith, fits.fits)) in (
      omega arith,
      row_found c.args.places c.args.state c.columns_over-columns.result c.columns_over-columns.ensures.columns c.args.line.now values long c.requires small c.row_of.result
          c.if-values-state.false c.if-values-gt1.false (c.if-not-is_line_of.ensures.0 refl) c.row_of.ensures,
    )
