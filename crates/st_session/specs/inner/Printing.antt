-- the output in the words of the answers
use Rattle.std.specs.Prelude.{ℕ, ◌≡◌, ◌+◌, List, [], ◌∷◌, ◌++◌, Bool, false, length, Option, Some, None, IsSomeAnd, if◌then◌else◌}
use Rattle.st_units.specs.declared.cause.Cause.TheVariants as causes
use Rattle.st_model.specs.declared.entry.Entry.{Entry}
use Rattle.st_history.specs.declared.log.Event.{Event}
use Rattle.st_model.specs.declared.reply.Reply.{Reply}
use Rattle.st_model.specs.Answer.{refused}
use Rattle.st_calls.specs.Names.{call_word}
use Rattle.st_replies.specs.Shown.{reply_line, not_built_line}
use Rattle.st_laning.specs.declared.answers.Answer.{Answer}
use Rattle.st_laning.specs.declared.answers.Answer.TheVariants.{Ran, Fault, NotBuilt, Refused}
use Rattle.st_laning.specs.Entries.{entries_of, entry_of}
use Rattle.st_check.specs.Checked.{fault_reply}
use Rattle.st_session.specs.Out.{entered_line, is_ok, trace_of, summary}
use Rattle.st_laning.specs.inner.Running.{IsRelease}

-- the reply line of line n, from its answer
abbrev pub entry_line : ℕ → Option Entry → List ℕ
entry_line n None = []
entry_line n (Some e) = entered_line n e

abbrev pub shown_line : ℕ → List Event → Answer → List ℕ
shown_line n log (Ran place) = entry_line n (entry_of n (entries_of log))
shown_line n log (Fault fault) = reply_line n (fault_reply fault)
shown_line n log (NotBuilt call) = not_built_line n (call_word call)
shown_line n log Refused = reply_line n (refused causes.OutOfMemory)

abbrev pub shown_ok : ℕ → List Event → Answer → Bool
shown_ok n log (Ran place) = is_ok (entry_of n (entries_of log))
shown_ok n log (Fault fault) = false
shown_ok n log (NotBuilt call) = false
shown_ok n log Refused = false

-- an answer that speaks of a place of the log speaks of line n's release
abbrev pub IsShown : ℕ → List Event → Answer → Type 0
IsShown n log (Ran place) = IsRelease n log place
IsShown n log (Fault fault) = Unit {0}
IsShown n log (NotBuilt call) = Unit {0}
IsShown n log Refused = Unit {0}

abbrev pub AreShown : ℕ → List Event → List Answer → Type 0
AreShown n log [] = Unit {0}
AreShown n log (answer ∷ answers) = IsShown n log answer × AreShown (n + 1) log answers

abbrev pub shown_from : ℕ → List Event → List Answer → List ℕ
shown_from n log [] = []
shown_from n log (answer ∷ answers) = shown_line n log answer ++ shown_from (n + 1) log answers

abbrev pub shown_oks : ℕ → List Event → List Answer → ℕ
shown_oks n log [] = 0
shown_oks n log (answer ∷ answers) = (if shown_ok n log answer then 1 else 0) + shown_oks (n + 1) log answers

-- the entry of line n was answered so
abbrev pub Replies : ℕ → List Event → Reply → Type 0
Replies n log reply = IsSomeAnd (entry_of n (entries_of log)) (λ (e : Entry). e.reply ≡ reply)

-- all that is printed, in the words of the answers
abbrev pub whole : Bool → List Event → List Answer → List ℕ
whole trace log answers = shown_from 1 log answers ++ (trace_of (if trace then log else []) ++ summary (length answers) (shown_oks 1 log answers))
