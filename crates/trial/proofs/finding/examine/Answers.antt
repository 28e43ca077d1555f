use Rattle.std.proofs.Common.{◌+◌, ◌≤◌, length, arith}
use Rattle.trial.proofs.Truth.{fits_word, found}
use Rattle.trial.proofs.finding.examine.Goals as goal

pub overflow_add-truth : goal.overflow_add-truth
overflow_add-truth c =
    let short : length c.args.word.now ≤ 64 = omega arith in
    omega (arith, fits_word c.args.word.now c.set_of-first.result c.set_of-second.result (c.set_of-first.ensures short) (c.set_of-second.ensures short) c.if-word-gt63.false)

pub returns : goal.returns
returns c =
    let short : length c.args.word.now ≤ 64 = omega arith in
    let more : length c.args.word.now ≤ length c.args.word.now + 1 = omega arith in
    let same : length c.args.word.now ≤ length c.args.word.now = omega arith in (
      c.in_default.ensures,
      c.if-word-gt63.false,
      found c.args.word.now c.set_of-first.result c.set_of-second.result (c.set_of-first.ensures short) (c.set_of-second.ensures short)
          c.set_of.result c.sums.result c.in_ok-sums_within.field-0 c.in_ok-sums_within-2.field-0 (c.set_of.ensures short)
          (c.sums.ensures c.in_default.ensures) (c.in_ok-sums_within.ensures same) (c.in_ok-sums_within-2.ensures more),
    )
