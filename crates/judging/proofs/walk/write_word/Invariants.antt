use Rattle.judging.proofs.Walks.{Writing}
use Rattle.judging.proofs.walk.write_word.Given as goal

abbrev pub invariant-loop-k : goal.invariant-loop-k
invariant-loop-k l =
    (goal.iterator-loop-k).can_next l.k-iterator × (goal.iterator-loop-k).is_finite l.k-iterator
    × Writing l.fn.rows l.state l.count l.initial.buffer l.buffer l.k-iterator
