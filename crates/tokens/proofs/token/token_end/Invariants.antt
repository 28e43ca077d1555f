use Rattle.std.proofs.Common.{length, ◌-◌, ◌≡◌, ℕ, ◌<◌, ◌≤◌, true, get_or}
use Rattle.std.specs.Char.{is_ascii_alphabetic}
use Rattle.tokens.proofs.token.token_end.Given as goal

abbrev pub invariant-loop-end : goal.invariant-loop-end
invariant-loop-end l = record {
  behind : l.at < l.end;
  within : l.end ≤ length l.text;
  letters : (k : ℕ) → l.at ≤ k → k < l.end → is_ascii_alphabetic (get_or l.text k 0) ≡ true;
}

abbrev pub decreases-loop-end : goal.decreases-loop-end
decreases-loop-end l = length l.text - l.end
