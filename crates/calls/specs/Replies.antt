-- The reply to a call, by what the tray answered.
use Rattle.std.specs.Prelude.{ℕ, Ok, Err, Result}
use Rattle.judging.specs.declared.verdict.Judgement.{Judgement}
use Rattle.tray.specs.declared.refusal.Refusal.{Refusal}
use Rattle.calls.specs.declared.call.Reply.{Reply}
use Rattle.calls.specs.declared.call.Reply.TheVariants.{Refused, Built, Dropped, Saved, Judged}

abbrev pub built : Result (ℕ × ℕ) Refusal → Reply
built (Ok counts) = Built counts.0 counts.1
built (Err why) = Refused why

abbrev pub dropped : Result (Unit {0}) Refusal → Reply
dropped (Ok _) = Dropped
dropped (Err why) = Refused why

abbrev pub saved : Result ℕ Refusal → Reply
saved (Ok bytes) = Saved bytes
saved (Err why) = Refused why

abbrev pub judged : Result Judgement Refusal → Reply
judged (Ok judgement) = Judged judgement
judged (Err why) = Refused why
