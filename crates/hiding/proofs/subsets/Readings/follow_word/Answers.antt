use Rattle.std.proofs.Common.{◌+◌, sym, ◌∙◌, arith}
use Rattle.hiding.specs.Collected.{followed}
use Rattle.hiding.proofs.Bitwise.{cleared_less}
use Rattle.hiding.proofs.Walking.{walked_bits, walked_no_bits}
use Rattle.hiding.proofs.subsets.Readings.follow_word.Goals as goal

pub loop-rest-smaller : goal.loop-rest-smaller
loop-rest-smaller c = cleared_less c.loop-rest.rest c.loop-rest-test.true (omega arith)

pub loop-rest-preserved : goal.loop-rest-preserved
loop-rest-preserved c =
    walked_bits (λ b. followed c.args.self.now (c.args.base + b)) _ _ _ c.loop-rest-test.true (omega arith) c.follow.ensures ∙ c.loop-rest.invariant

pub returns : goal.returns
returns c = sym (walked_no_bits _ _ _ c.loop-rest-test.false) ∙ c.loop-rest.invariant
