-- a ticket that its seat holds while it makes other calls
use Rattle.std.specs.Prelude.{ℕ, ◌≡◌, true, List, Option, Some}
use mathlib.Core.List.{IsPrefix}
use Rattle.st_wants.specs.declared.row.LockRow.{LockRow}
use Rattle.st_wants.specs.declared.want.Want.{Want}
use Rattle.st_model.specs.declared.entry.Entry.{Entry}
use Rattle.st_model.specs.declared.state.PoolState.{PoolState}
use Rattle.st_model.specs.Parts.{Agree}
use Rattle.st_model.specs.Valid.{IsValid}
use Rattle.st_history.specs.History.{History}
use Rattle.st_book.specs.Stands.{PartStands, ComesBack}
use Rattle.st_book.specs.View.{TableView}
use Rattle.st_lock.specs.Held.{Rose}
use Rattle.st_lock.specs.Opening.{events_of}
use Rattle.st_lock.specs.Seats.{LockSeat, IsHeard, own_row, state_at}

-- The seat later on, whatever calls it made: it has seen more of the log, which is a history, and all its own events, of which it may have more.
pub record HasGoneOn (old new : LockSeat) : Type 0 where
  pub number : new.number ≡ old.number
  pub opening : new.opening ≡ old.opening
  pub seen : IsPrefix old.seen new.seen
  pub own : IsPrefix old.own new.own
  pub heard : IsHeard new
  pub history : History new.opening.state (events_of new.seen)
  pub valid : IsValid (state_at new)

-- What is known of a ticket, and of what its holder has and gives back, goes over from the one seat to the other.
pub record GoesOver (old new : LockSeat) (ticket : ℕ) (want : Want) : Type 0 where
  pub agree : Agree want (state_at old) (state_at new)
  pub part : (cells : List PoolState) (table : Option TableView) → PartStands want (state_at old) cells table → PartStands want (state_at new) cells table
  pub back : (base : ℕ) (entries : List Entry) (cells : List PoolState) (table : Option TableView) → ComesBack want (state_at old) base entries cells table → ComesBack want (state_at new) base entries cells table
  pub rose : (faults more : ℕ) → Rose old ticket faults more → Rose new ticket faults more

-- A part stays what it was while its ticket is held: whatever its seat and others do, what it stood for it stands for later on.
abbrev pub PartStays : Type 0
PartStays = (old new : LockSeat) (ticket : ℕ) (row : LockRow) → IsHeard old → IsValid (state_at old) → HasGoneOn old new
    → own_row ticket old ≡ Some row → own_row ticket new ≡ Some row → row.live ≡ true → GoesOver old new ticket row.want
