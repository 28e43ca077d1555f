use Rattle.std.proofs.Common.{sym, ◌∙◌, arith}
use Rattle.std.proofs.lemmas.List.{take_more_set, length-take-le}
use Rattle.tokens.proofs.Sets.{found, not_found}
use Rattle.tokens.proofs.letters.Letters.set_of.Goals as goal

pub returns-in-Some-clause-set : goal.returns-in-Some-clause-set
returns-in-Some-clause-set c =
    let known = found c.args.letter _ c.find.result c.find.ensures c.in-Some.set c.in-Some.is in
    omega (arith, known.0)

pub returns-in-Some-clause-seen : goal.returns-in-Some-clause-seen
returns-in-Some-clause-seen c = (found c.args.letter _ c.find.result c.find.ensures c.in-Some.set c.in-Some.is).1

pub returns-in-None-clause-set : goal.returns-in-None-clause-set
returns-in-None-clause-set c =
    let next = not_found c.args.letter _ c.find.result c.find.ensures c.in-None.is in
    omega (arith, next.1, length-take-le c.args.self.now.many c.args.self.now.seen (omega arith))

pub returns-in-None-clause-seen : goal.returns-in-None-clause-seen
returns-in-None-clause-seen c =
    let next = not_found c.args.letter _ c.find.result c.find.ensures c.in-None.is in
    take_more_set c.args.self.now.seen c.args.self.now.many c.args.letter (omega arith) ∙ sym next.0
