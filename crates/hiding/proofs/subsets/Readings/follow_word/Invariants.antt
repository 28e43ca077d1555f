use Rattle.std.proofs.Common.{◌≡◌, ◌+◌}
use Rattle.hiding.specs.StateSets.{has_bit}
use Rattle.hiding.specs.Collected.{followed, walked}
use Rattle.hiding.proofs.subsets.Readings.follow_word.Given as goal

-- what is left of the word leads to where the whole word leads
abbrev pub invariant-loop-rest : goal.invariant-loop-rest
invariant-loop-rest l =
    walked (λ b. followed l.self (l.base + b)) (has_bit l.rest) 64 l.gathered
    ≡ walked (λ b. followed l.self (l.base + b)) (has_bit l.word) 64 l.initial.gathered

abbrev pub decreases-loop-rest : goal.decreases-loop-rest
decreases-loop-rest l = l.rest
