use Rattle.std.proofs.Common.{sym, subst}
use Rattle.trial.specs.Examined.{Corrected}
use Rattle.trial.proofs.Truth.{corrected_sums}
use Rattle.trial.proofs.finding.sums_within.Goals as goal

pub returns : goal.returns
returns c long =
    corrected_sums c.args.word.now c.args.sum c.args.columns c.deref.result.now
    (subst (Corrected c.args.word.now c.args.sum c.args.columns) (sym c.deref.ensures.value) c.in_ok-corrected.ensures)
    long c.sums.result c.sums.ensures
