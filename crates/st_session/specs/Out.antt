-- what is written for the lines and the log
use Rattle.std.specs.Prelude.{ℕ, ◌+◌, ◌==◌, List, [], ◌∷◌, ◌++◌, length, Bool, false, Option, Some, None, Result, Ok, Err, if◌then◌else◌}
use Rattle.st_units.specs.declared.cause.Cause.TheVariants as causes
use Rattle.st_model.specs.declared.call.Call.{Call}
use Rattle.st_model.specs.declared.entry.Entry.{Entry}
use Rattle.st_history.specs.declared.log.Event.{Event}
use Rattle.st_model.specs.Answer.{refused}
use Rattle.st_calls.specs.declared.fault.LineFault.{LineFault}
use Rattle.st_calls.specs.Form.{form}
use Rattle.st_calls.specs.Names.{call_word}
use Rattle.st_replies.specs.Shown.{reply_line, summary_line, not_built_line}
use Rattle.st_check.specs.Checked.{fault_reply, still}
use Rattle.st_trace.specs.Traced.{trace_line}
use Rattle.st_running.specs.Calls.{runs}
use Rattle.st_laning.specs.Entries.{entries_of, entry_of}

-- the reply to a call without an entry: that the engine doesn't run it, or want of memory before it arrived
abbrev pub unentered_line : ℕ → Call → List ℕ
unentered_line n call = if runs call then reply_line n (refused causes.OutOfMemory) else not_built_line n (call_word call)

-- the reply to a line without an entry
abbrev pub formed_line : ℕ → Result (ℕ × Call) LineFault → List ℕ
formed_line n (Ok read) = unentered_line n read.1
formed_line n (Err fault) = reply_line n (fault_reply fault)

abbrev pub entered_line : ℕ → Entry → List ℕ
entered_line n e = reply_line n e.reply

-- the reply to line n: that of its entry, where it has one
abbrev pub answer_line : ℕ → Result (ℕ × Call) LineFault → Option Entry → List ℕ
answer_line n read None = formed_line n read
answer_line n read (Some e) = entered_line n e

-- the replies to the lines, the first of which has number n
abbrev pub replies_from : ℕ → ℕ → List (List ℕ) → List Event → List ℕ
replies_from lanes n [] log = []
replies_from lanes n (line ∷ lines) log = answer_line n (form lanes line) (entry_of n (entries_of log)) ++ replies_from lanes (n + 1) lines log

abbrev pub is_ok : Option Entry → Bool
is_ok None = false
is_ok (Some e) = e.reply.code == 0

-- how many of them have code 0
abbrev pub ok_from : ℕ → List (List ℕ) → List Event → ℕ
ok_from n [] log = 0
ok_from n (line ∷ lines) log = (if is_ok (entry_of n (entries_of log)) then 1 else 0) + ok_from (n + 1) lines log

-- the events, in order
abbrev pub trace_of : List Event → List ℕ
trace_of [] = []
trace_of (event ∷ log) = trace_line event ++ trace_of log

-- no call that writes or reads sectors is built yet
abbrev pub summary : ℕ → ℕ → List ℕ
summary lines ok = summary_line (still lines ok)

-- a reply line for each line, then with the trace a line for each event, then the summary
unfoldable pub out : ℕ → Bool → List (List ℕ) → List Event → List ℕ
out lanes trace lines log =
    replies_from lanes 1 lines log ++ (trace_of (if trace then log else []) ++ summary (length lines) (ok_from 1 lines log))
