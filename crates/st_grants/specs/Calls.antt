-- lists of the calls that change `Grants`, and the events that a log has of them
use Rattle.std.specs.Prelude.{ℕ, List, [], ◌∷◌, Option, Some, None}
use Rattle.st_wants.specs.declared.want.Want.{Want}
use Rattle.st_wants.specs.declared.row.LockRow.{LockRow}
use Rattle.st_wants.specs.Lock.{Lock, row_at, IsWaiting, IsLive, IsFree}
use Rattle.st_wants.specs.Rules as rule

pub data Call : Type 0 where
  Arrive : (seat : ℕ) (want : Want) → Call
  Grant : (ticket : ℕ) → Call
  Release : (ticket : ℕ) → Call

-- what the call requires of its ticket
abbrev pub Requires : Lock → Call → Type 0
Requires l (Arrive s w) = Unit {0}
Requires l (Grant t) = IsWaiting l t × IsFree l t
Requires l (Release t) = IsLive l t

abbrev pub seat_in : Option LockRow → ℕ
seat_in (Some r) = r.seat
seat_in None = 0

-- the event: an arrival has the next ticket, a grant and a release the seat that arrived
abbrev pub event_of : Lock → Call → rule.Move
event_of l (Arrive s w) = rule.Arrive s l.next w
event_of l (Grant t) = rule.Grant (seat_in (row_at t l.rows)) t
event_of l (Release t) = rule.Release (seat_in (row_at t l.rows)) t

-- the events of a list of calls
abbrev pub events_of : Lock → List Call → List rule.Move
events_of l [] = []
events_of l (c ∷ cs) = event_of l c ∷ events_of (rule.lock_after l (event_of l c)) cs

-- what each call requires holds when it is made
abbrev pub AreMade : Lock → List Call → Type 0
AreMade l [] = Unit {0}
AreMade l (c ∷ cs) = Requires l c × AreMade (rule.lock_after l (event_of l c)) cs
