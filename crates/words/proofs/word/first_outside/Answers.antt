use Rattle.std.proofs.Common.{◌^◌, ◌<◌, ◌≤◌, rules, tests}
use Rattle.std.proofs.lemmas.Iterator.{IsFirst-from_position, YieldsList-from_slice}
use Rattle.words.proofs.Coding.{first_out_of_range}
use Rattle.words.proofs.word.first_outside.Goals as goal

pub returns : goal.returns
returns c =
    first_out_of_range c.args.sets c.args.word.now c.position.result
    (IsFirst-from_position _ _ _ (λ x. 2 ^ c.args.sets ≤ x) (λ x. x < 2 ^ c.args.sets) c.position.ensures.ran
    (YieldsList-from_slice c.args.word.now c.iter.ensures.rest) (λ x q k. search (rules, tests)) (λ x q k. search (rules, tests)))
