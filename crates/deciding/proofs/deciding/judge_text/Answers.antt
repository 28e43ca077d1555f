use Rattle.std.proofs.Common.{refl, inl}
use Rattle.tray.specs.Refusals.{number_of}
use Rattle.deciding.proofs.Judging.{judges_text}
use Rattle.deciding.proofs.Opening.{refused_opening, passed_opening}
use Rattle.deciding.proofs.deciding.judge_text.Goals as goal

pub returns-in-Err : goal.returns-in-Err
returns-in-Err g c =
    rw c.from.ensures
    (inl (refused_opening c.args.settings _ _ c.within-tray.ensures.whole c.within-tray.ensures.cut (number_of c.in-Err.why) c.in-Err.ensures.opens.0, refl))

pub returns : goal.returns
returns g c =
    let book = c.args.book.now in
    let opens = c.in_default.ensures.opens in
    judges_text (g.B.NamedBook.numbered book) (g.B.Book.size book) (g.B.Book.automaton book) (g.B.Book.holds book) c.args.text.now c.args.settings
    c.open.new.self.control opens.1 opens.2 opens.3 opens.4 c.judge_on.result
    (passed_opening c.args.settings _ _ c.within-tray.ensures.whole c.within-tray.ensures.cut opens.0) c.judge_on.ensures
