use Rattle.std.proofs.Common.{refl}
use Rattle.std.proofs.lemmas.Bool.{false≢true}
use Rattle.deciding.proofs.Questions.{other_heading, other_values, asks_so}
use Rattle.deciding.proofs.question.read_question.Goals as goal

pub returns-then-not-is_heading : goal.returns-then-not-is_heading
returns-then-not-is_heading c =
    other_heading c.args.input.now c.cut.result.0.now c.cut.result.1.now c.cut.ensures (λ e. false≢true (c.if-not-is_heading.ensures.1 e))

pub returns-then-not-read_numbers : goal.returns-then-not-read_numbers
returns-then-not-read_numbers c =
    other_values c.args.input.now c.cut.result.0.now c.cut.result.1.now c.cut.ensures (c.if-not-is_heading.ensures.0 refl) c.cut-2.result.0.now c.cut-2.result.1.now c.cut-2.ensures
    c.read_numbers.new.values c.if-not-read_numbers.ensures

pub returns : goal.returns
returns c =
    asks_so c.args.input.now c.cut.result.0.now c.cut.result.1.now c.cut.ensures (c.if-not-is_heading.ensures.0 refl) c.cut-2.result.0.now c.cut-2.result.1.now c.cut-2.ensures
    c.read_numbers.new.values (record { sets = c.from.result; budget = c.from-2.result; depth = c.from-3.result }) c.if-not-read_numbers.ensures c.from.ensures c.from-2.ensures c.from-3.ensures
