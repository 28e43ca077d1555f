use Rattle.std.proofs.Common.{refl, arith}
use mathlib.Core.Logic.{∥∥₁_map}
use Rattle.tray.proofs.Builts.{stands_same}
use Rattle.tray.proofs.tray.Tray.drop.Goals as goal

pub invariant_of-self-2-clause-live : goal.invariant_of-self-2-clause-live
invariant_of-self-2-clause-live c =
    let t = c.args.self.now in
    let k = t.control in
    λ i h. ∥∥₁_map (t.live i (omega arith)) (stands_same k _ k.sizes t.tables.now t.tables.now i refl (λ _ _. refl))
