use Rattle.std.proofs.Common.{◌^◌, ◌≤◌, arith, pow_mono}
use Rattle.std.proofs.lemmas.Nat.{one_shl}
use Rattle.loading.proofs.lines.columns_over.Goals as goal

pub returns-clause-few : goal.returns-clause-few
returns-clause-few c =
    let few : 2 ^ c.args.places ≤ 16 = pow_mono c.requires in
    omega (arith, one_shl c.args.places 64 (omega (arith, c.requires)))
