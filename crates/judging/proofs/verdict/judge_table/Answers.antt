use Rattle.std.proofs.Common.{arith}
use Rattle.words.proofs.Recovered.{table_of}
use Rattle.judging.proofs.Judgements.{judged}
use Rattle.judging.proofs.verdict.judge_table.Goals as goal

pub returns : goal.returns
returns c =
    let t = c.args.table.now in
    let met = c.write_earliest-met in
    let missed = c.write_earliest-missed in (
      omega (arith, c.from-states.ensures, c.if-witness-states.false),
      omega (arith, c.from-states.ensures, c.if-counterexample-states.false),
      c.from-states.ensures,
      met.ensures.0,
      missed.ensures.0,
      judged t.rows c.args.witness.now c.args.counterexample.now met.new.buffer missed.new.buffer (table_of t) _ c.from-states.ensures c.verdict_by.ensures
          met.ensures.1 missed.ensures.1,
    )
