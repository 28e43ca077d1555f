use Rattle.std.proofs.Common.{sym, subst, Decides}
use Rattle.words.specs.Words.{coded}
use Rattle.words.specs.Relations.{Sum}
use Rattle.trial.proofs.Truth.{answered}
use Rattle.trial.proofs.finding.sums.Goals as goal

pub returns : goal.returns
returns c fit =
    subst (λ b. Decides b (Sum (coded 0 c.args.word.now) (coded 1 c.args.word.now) (coded 2 c.args.word.now))) (sym c.unwrap_or.ensures)
    (answered c.args.word.now c.ask.result c.ask.ensures fit)
