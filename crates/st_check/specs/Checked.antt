-- what a check of lines writes
use Rattle.std.specs.Prelude.{ℕ, ◌-◌, ◌==◌, List, ◌++◌, length, map, Bool, Option, Result, Ok, Err}
use Rattle.std.specs.List.{enumerate_from, filter, flat_map}
use Rattle.st_units.specs.declared.cause.Cause.TheVariants as causes
use Rattle.st_lines.specs.Lines.{AreLinesOf}
use Rattle.st_model.specs.Answer.{accepted, refused}
use Rattle.st_model.specs.declared.call.Call.{Call}
use Rattle.st_model.specs.declared.reply.Given.TheVariants.{Accepted}
use Rattle.st_model.specs.declared.reply.Reply.{Reply}
use Rattle.st_calls.specs.declared.fault.LineFault.{LineFault}
use Rattle.st_calls.specs.declared.fault.LineFault.TheVariants.{BadCall, BadName, OutOfMemory}
use Rattle.st_calls.specs.Form.{form}
use Rattle.st_replies.specs.Shown.{reply_line, summary_line}
use Rattle.st_replies.specs.declared.line.Summary.{Summary}
use Rattle.st_status.specs.Statuses.{Wrote}
use Rattle.st_status.specs.declared.status.Status.{Status}

-- the reply to a line that is no call
abbrev pub fault_reply : LineFault → Reply
fault_reply (BadCall member) = refused (causes.BadCall member)
fault_reply (BadName member) = refused (causes.BadName member)
fault_reply OutOfMemory = refused causes.OutOfMemory

abbrev pub verdict_on : Result (ℕ × Call) LineFault → Reply
verdict_on (Ok read) = accepted Accepted
verdict_on (Err fault) = fault_reply fault

-- the reply to a line: what is wrong with it, or that it is accepted
abbrev pub verdict : ℕ → List ℕ → Reply
verdict lanes line = verdict_on (form lanes line)

abbrev pub numbered_line : ℕ × Reply → List ℕ
numbered_line reply = reply_line reply.0 reply.1

abbrev pub is_ok : Reply → Bool
is_ok reply = reply.code == 0

-- what replies come to where no sector was written or read
abbrev pub still : ℕ → ℕ → Summary
still lines ok = record { lines = lines; ok = ok; refused = lines - ok; written = 0; read = 0 }

abbrev pub sums : List Reply → Summary
sums replies = still (length replies) (length (filter is_ok replies))

-- the replies, numbered from 1, and the summary
abbrev pub answers : List Reply → List ℕ
answers replies = flat_map numbered_line (enumerate_from 1 replies) ++ summary_line (sums replies)

-- what a check of these lines writes
unfoldable pub checked : ℕ → List (List ℕ) → List ℕ
checked lanes lines = answers (map (verdict lanes) lines)

-- a check that ended so: of what it writes for the lines that the source had left, the sink took what comes with that status
pub record IsCheck (lanes : ℕ) (status : Status) (left held now : Option (List ℕ)) : Type 0 where
  pub lines : List (List ℕ)
  pub read : AreLinesOf left lines
  pub wrote : Wrote status held now (checked lanes lines)
