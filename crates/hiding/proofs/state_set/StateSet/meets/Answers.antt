use Rattle.std.proofs.Common.{rules, tests, arith}
use Rattle.std.proofs.lemmas.Iterator.{cases_from_any, YieldsList-from_slice, YieldsList-from_zip}
use Rattle.hiding.proofs.Meeting.{Shared, meets_by_words}
use Rattle.hiding.proofs.state_set.StateSet.meets.Goals as goal

pub returns : goal.returns
returns c =
    meets_by_words c.args.self.now c.args.other.now (omega arith) (omega arith) c.any.result
    (cases_from_any c.any.new.self _ _ Shared (λ w. Shared w → ⊥) c.any.ensures.ran
    (YieldsList-from_zip (YieldsList-from_slice c.args.self.now.words cc) (YieldsList-from_slice c.args.other.now.words cc))
    (λ x q k. search (rules, tests)) (λ x q k. search (rules, tests)))
