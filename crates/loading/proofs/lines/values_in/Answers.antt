use Rattle.std.proofs.Common.{◌≡◌, length, take, sym, ap, ◌∙◌, arith}
use Rattle.std.proofs.lemmas.List.{take_all}
use Rattle.loading.proofs.Values.{Gathered, front_gathered}
use Rattle.loading.proofs.lines.values_in.Goals as goal

pub returns : goal.returns
returns c = λ values few small same.
    let line = c.args.line.now in
    let whole : take c.loop-byte.byte-index line ≡ line = take_all c.loop-byte.byte-index line (omega arith) in
    let read = ap (λ (g : Gathered). g.0) (rw (whole, same) at c.loop-byte.invariant.read) in
    ap (take (length values)) (sym read) ∙ front_gathered values _ small (omega (arith, few))
