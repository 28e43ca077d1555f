use Rattle.std.proofs.Common.{◌^◌, ◌≤◌, arith}
use Rattle.std.proofs.Math.Pow.{pow_mono}
use Rattle.loading.proofs.filling.row_length.Goals as goal

pub returns-clause-small : goal.returns-clause-small
returns-clause-small c = let few : 2 ^ c.args.places ≤ 2 ^ 4 = pow_mono c.requires in omega (arith, few)
