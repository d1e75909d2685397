-- What a seat is after a call of the engine.
use Rattle.std.specs.Prelude.{◌≡◌, ◌⊎◌, ℕ}
use Rattle.st_units.specs.declared.cause.Cause.TheVariants.{OutOfMemory}
use Rattle.st_model.specs.declared.call.Call.{Call}
use Rattle.st_model.specs.declared.entry.Entry.{Entry}
use Rattle.st_model.specs.declared.entry.Origin.{Origin}
use Rattle.st_model.specs.declared.reply.Reply.{Reply}
use Rattle.st_model.specs.Answer.{refused}
use Rattle.st_lock.specs.Seats.{LockSeat, IsLater}
use Rattle.st_serving.specs.Serving.{HasReleased, HasServed, HasStayed}

-- the entry is of this call, by who made it, with this reply
pub record IsEntryOf (call : Call) (from : Origin) (reply : Reply) (e : Entry) : Type 0 where
  pub call_is : e.call ≡ call
  pub from_is : e.from ≡ from
  pub reply_is : e.reply ≡ reply

-- The ticket was released: the seat has seen more of the log, and its own events got a release of the ticket with the call's entry.
pub record Released (call : Call) (from : Origin) (reply : Reply) (ticket : ℕ) (old new : LockSeat) : Type 0 where
  pub later : IsLater old new
  pub entry : Entry
  pub released : HasReleased old.own new.own old.number ticket entry
  pub of : IsEntryOf call from reply entry

-- The call ran: the seat has seen more of the log, and its own events got an arrival, a grant, and a release with the call's entry.
pub record Served (call : Call) (from : Origin) (reply : Reply) (old new : LockSeat) : Type 0 where
  pub later : IsLater old new
  pub entry : Entry
  pub served : HasServed old.own new.own old.number entry
  pub of : IsEntryOf call from reply entry

-- memory was refused before the call arrived, which leaves no event
pub record NotArrived (reply : Reply) (old new : LockSeat) : Type 0 where
  pub stayed : HasStayed old new
  pub refused_is : reply ≡ refused OutOfMemory

abbrev pub Called : Call → Origin → Reply → LockSeat → LockSeat → Type 0
Called call from reply old new = Served call from reply old new ⊎ NotArrived reply old new
