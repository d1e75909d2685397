-- what contracts see of a seat of the lock, and how it goes on
use Rattle.std.specs.Prelude.{ℕ, ◌≡◌, ◌+◌, max, List, [], ◌∷◌, ◌++◌, Option, Some, None}
use Rattle.atomic_table.specs.Seated.{TableId}
use Rattle.st_turn.specs.declared.knowledge.Claim.{Claim}
use Rattle.st_turn.specs.Lists.{told_by, longer}
use Rattle.st_turn.specs.Views.{SeatView}
use Rattle.st_wants.specs.declared.row.LockRow.{LockRow}
use Rattle.st_wants.specs.Lock.{Lock, start}
use Rattle.st_wants.specs.Rules.{lock_run}
use Rattle.st_model.specs.declared.state.EngineState.{EngineState}
use Rattle.st_model.specs.Valid.{IsValid}
use Rattle.st_history.specs.declared.log.Event.{Event}
use Rattle.st_history.specs.History.{History, moves_of, replay}
use Rattle.st_history.specs.Own.{row_told}
use Rattle.st_book.specs.declared.noted.Noted.{Noted}
use Rattle.st_lock.specs.declared.desk.Opening.{Opening}
use Rattle.st_lock.specs.Opening.{noted_by, events_of, no_opening}

pub record LockSeat : Type 0 where
  -- the lock that it is of
  pub turn : TableId
  pub number : ℕ
  -- the log, as far as it has seen it, each grant with its number of faults
  pub seen : List Noted
  -- its own events
  pub own : List Noted
  -- the seats that were joined into it, each with its events; and what it needs to see that all were
  pub taken_over : List (Claim Noted)
  pub made : List ℕ
  pub counted : ℕ
  -- the state that the log begins with, and the base
  pub opening : Opening

abbrev pub opened : Option Opening → Opening
opened None = no_opening
opened (Some o) = o

abbrev pub IsOpened : Option Opening → Type 0
IsOpened None = ⊥
IsOpened (Some o) = Unit {0}

abbrev pub lock_seat : SeatView Noted Opening → LockSeat
lock_seat v = record {
  turn = v.turn;
  number = v.number;
  seen = v.seen;
  own = v.own;
  taken_over = v.taken_over;
  made = v.made;
  counted = v.counted;
  opening = opened v.opening;
}

-- an event that is no grant
abbrev pub plain : Event → Noted
plain e = record { event = e; faults = 0 }

-- the state after the log, as far as the seat has seen it
abbrev pub state_at : LockSeat → EngineState
state_at v = replay v.opening.state (events_of v.seen)

abbrev pub lock_at : LockSeat → Lock
lock_at v = lock_run start (moves_of (events_of v.seen))

-- the row of a ticket, as the seat's own events tell it
abbrev pub own_row : ℕ → LockSeat → Option LockRow
own_row t v = row_told t (events_of v.own)

-- it has seen all its own events
abbrev pub IsHeard : LockSeat → Type 0
IsHeard v = told_by noted_by v.number v.seen ≡ v.own

-- this is the last event of the log, as far as it has seen it
abbrev pub EndsWith : Noted → LockSeat → Type 0
EndsWith e v = (before : List Noted) × (v.seen ≡ before ++ e ∷ [])

-- the seat later on: it has seen more of the log
pub record IsAfter (old new : LockSeat) : Type 0 where
  pub turn : new.turn ≡ old.turn
  pub number : new.number ≡ old.number
  pub taken_over : new.taken_over ≡ old.taken_over
  pub made : new.made ≡ old.made
  pub counted : new.counted ≡ old.counted
  pub opening : new.opening ≡ old.opening
  pub more : List Noted
  pub seen : new.seen ≡ old.seen ++ more

-- the seat after a turn: it has seen more of the log, which is a history, and all its own events
pub record IsLater (old new : LockSeat) : Type 0 where
  pub turn : new.turn ≡ old.turn
  pub number : new.number ≡ old.number
  pub taken_over : new.taken_over ≡ old.taken_over
  pub made : new.made ≡ old.made
  pub counted : new.counted ≡ old.counted
  pub opening : new.opening ≡ old.opening
  pub more : List Noted
  pub seen : new.seen ≡ old.seen ++ more
  pub heard : IsHeard new
  pub history : History new.opening.state (events_of new.seen)
  pub valid : IsValid (state_at new)

-- the first seat
abbrev pub first_lock_seat : TableId → Opening → LockSeat
first_lock_seat id o = record { turn = id; number = 0; seen = []; own = []; taken_over = []; made = []; counted = 1; opening = o }

-- the seat after the number n was split off it, and the seat that was split off
abbrev pub lock_split : LockSeat → ℕ → LockSeat
lock_split v n = record v { made = v.made ++ n ∷ []; counted = n + 1 }

abbrev pub lock_new : LockSeat → ℕ → LockSeat
lock_new v n = record v { number = n; own = []; taken_over = []; made = []; counted = n + 1 }

-- the seat after it took the other in
abbrev pub lock_join : LockSeat → LockSeat → LockSeat
lock_join v w = record v { seen = longer v.seen w.seen; taken_over = v.taken_over ++ (record { number = w.number; events = w.own }) ∷ w.taken_over; made = v.made ++ w.made; counted = max v.counted w.counted }
