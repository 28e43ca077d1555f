use Rattle.std.proofs.Common.{rules, tests, ◌==◌, take}
use Rattle.std.proofs.lemmas.Iterator.{YieldsList-from_slice}
use Rattle.std.proofs.lemmas.Iterator.Search.{position_from_yields_List}
use Rattle.tokens.proofs.letters.Letters.find.Goals as goal

pub returns : goal.returns
returns c =
    position_from_yields_List (λ known. known == c.args.letter) _ _ c.position.result c.position.ensures.ran
    (YieldsList-from_slice (take c.args.self.now.many c.args.self.now.seen) c.iter.ensures.rest) (λ x b q k. search (rules, tests))
