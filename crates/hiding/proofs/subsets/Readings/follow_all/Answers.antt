use Rattle.std.proofs.Common.{◌≡◌, ℕ, ◌+◌, ◌*◌, get_or, arith}
use Rattle.hiding.specs.StateSets.{no_states, is_in, has_bit}
use Rattle.hiding.specs.Collected.{followed, walked}
use Rattle.hiding.proofs.Walking.{walked_more}
use Rattle.hiding.proofs.Gathering.{bit_is_in}
use Rattle.hiding.proofs.subsets.Readings.follow_all.Goals as goal

pub loop-k-init : goal.loop-k-init
unfolding walked
loop-k-init c = c.empty-gathered.ensures

pub loop-k-preserved : goal.loop-k-preserved
loop-k-preserved c =
    let k : ℕ = c.loop-k.k in
    let act = followed c.args.self.now in
    let from = c.args.from.now in
    let next : 64 * (k + 1) ≡ 64 * k + 64 = omega arith in
    rw (c.follow_word.ensures, c.words-word-items.ensures, c.loop-k.invariant, next)
    (walked_more act (is_in from) (has_bit (get_or from.words k 0)) (64 * k) 64 no_states (λ b. bit_is_in from k b c.loop-k-test.true))
