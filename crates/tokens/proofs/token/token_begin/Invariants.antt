use Rattle.std.proofs.Common.{length, ◌-◌, ◌≡◌, ℕ, ◌<◌, ◌≤◌, true, drop, get_or}
use Rattle.tokens.specs.Pieces.{blank, pieces}
use Rattle.tokens.proofs.token.token_begin.Given as goal

abbrev pub invariant-loop-at : goal.invariant-loop-at
invariant-loop-at l = record {
  behind : l.from ≤ l.at;
  blanks : (k : ℕ) → l.from ≤ k → k < l.at → blank (get_or l.text k 0) ≡ true;
  same : pieces l.from (drop l.from l.text) ≡ pieces l.at (drop l.at l.text);
}

abbrev pub decreases-loop-at : goal.decreases-loop-at
decreases-loop-at l = length l.text - l.at
