-- Why a line is not read, where its board was found.
use Rattle.std.proofs.Common.{List, ℕ}
use Rattle.trial.specs.declared.recording.Board.{Board}
use Rattle.trial.specs.declared.recording.Unread.{Unread}
use Rattle.trial.specs.declared.recording.Unread.TheVariants.{NoBoard, NoColumns, NoMemory}
use Rattle.trial.specs.Recordings.{IsLine, IsUnlisted, IsUnread}

pub unread_behind : (line text : List ℕ) (board : Board) (e : Unread) → IsLine board text line → IsUnlisted text e → IsUnread line e
unread_behind line text board NoBoard is why = absurd why
unread_behind line text board NoColumns is why = (board, text, is, why)
unread_behind line text board NoMemory is why = (board, text, is, why)
