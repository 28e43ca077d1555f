use Rattle.std.proofs.Common.{◌∷◌, ◌++◌, lit<, ap, ◌∙◌}
use Rattle.std.proofs.lemmas.Result.{err_from_is_err_and}
use Rattle.std.proofs.lemmas.Str.Pattern.{split_parts}
use Rattle.trial.specs.Recordings.{IsLine}
use Rattle.trial.proofs.Lines.{unread_behind}
use Rattle.trial.proofs.recording.read.Goals as goal

pub returns-in_err-word-clause-err : goal.returns-in_err-word-clause-err
returns-in_err-word-clause-err c =
    let given = err_from_is_err_and c.from_residual-in_err-word.result c.from_residual-in_err-word.ensures.1 in
    let pieces = split_parts 32 c.args.line.now c.split_once.result c.split_once.ensures.cases (lit< tt) in
    let cut = rw c.in_ok-name.ensures.ok_part at pieces in
    let is : IsLine c.in_ok-board.board c.in_ok-name.columns.now c.args.line.now = cut.0 ∙ ap (λ n. n ++ 32 ∷ c.in_ok-name.columns.now) c.in_ok-board.ensures.value in
    rw (given.1, given.2) (unread_behind c.args.line.now c.in_ok-name.columns.now c.in_ok-board.board c.in_err-word.field-0.0 is c.in_err-word.ensures.err)
