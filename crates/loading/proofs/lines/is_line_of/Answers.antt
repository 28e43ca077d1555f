use Rattle.std.proofs.Common.{◌≤◌, arith}
use Rattle.std.proofs.lemmas.List.Elements.{All-from_get_or}
use Rattle.loading.proofs.Values.{line_short}
use Rattle.loading.proofs.lines.is_line_of.Goals as goal

pub returns-in-None : goal.returns-in-None
returns-in-None c =
    let values = c.args.values.now in
    let small = All-from_get_or (λ v. v ≤ 65535) values 0 (λ i low. omega (arith, c.type_inv.values i)) in
    (λ e. cc, λ is. absurd (omega (arith, c.in-None.ensures, line_short values small c.requires)))
