use Rattle.std.proofs.Common.{rules, ◌≡◌, take, arith}
use Rattle.std.proofs.lemmas.Grind.{common_steps}
use Rattle.saving.proofs.Layings.{lays_then}
use Rattle.saving.proofs.Lines.{numbers_first, numbers_more}
use Rattle.saving.proofs.line.lay_line.Goals as goal
use Rattle.saving.proofs.line.lay_line.Goals.{then-k-gt0, else-k-gt0}

pub loop-k-preserved : goal.loop-k-preserved
loop-k-preserved c = elim c.if-k-gt0.branch [
  | then-k-gt0 w ↦ rw (numbers_more c.args.values.now c.loop-k.k (omega arith) (omega arith)) (lays_then (lays_then c.loop-k.invariant w.byte.ensures) (rw w.text-is at c.number.ensures))
  | else-k-gt0 w ↦ rw (numbers_first c.args.values.now c.loop-k.k (omega arith) (omega arith)) (lays_then c.loop-k.invariant (rw w.text-is at c.number.ensures))
]

pub returns : goal.returns
returns c =
    let values = c.args.values.now in
    let all : take c.loop-k.k values ≡ values = grind (arith, common_steps) in
    let laid = rw all at (lays_then c.loop-k.invariant c.byte-2.ensures).laid in
    search (rules, laid)
