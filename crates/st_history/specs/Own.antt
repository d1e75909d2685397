-- what a seat's own events tell of its tickets
use Rattle.std.specs.Prelude.{ℕ, ◌≡◌, ◌==◌, List, [], ◌∷◌, filter, Option, Some, None, option_map, if◌then◌else◌}
use Rattle.st_wants.specs.declared.row.LockRow.{LockRow}
use Rattle.st_wants.specs.Lock.{start, row_at, new_row, marked}
use Rattle.st_wants.specs.Rules.{lock_run}
use Rattle.st_model.specs.declared.state.EngineState.{EngineState}
use Rattle.st_history.specs.declared.log.Event.{Event}
use Rattle.st_history.specs.declared.log.Event.TheVariants.{Arrive, Grant, Release}
use Rattle.st_history.specs.History.{History, moves_of}

abbrev pub seat_of : Event → ℕ
seat_of (Arrive seat ticket want) = seat
seat_of (Grant seat ticket) = seat
seat_of (Release seat ticket entries) = seat

-- the events of one seat
abbrev pub own_of : ℕ → List Event → List Event
own_of n log = filter (λ e. seat_of e == n) log

-- what an event makes of a ticket's row
abbrev pub row_past : ℕ → Option LockRow → Event → Option LockRow
row_past t row (Arrive seat u want) = if u == t then Some (new_row u seat want) else row
row_past t row (Grant seat u) = option_map (marked u) row
row_past t row (Release seat u entries) = if u == t then None else row

abbrev pub row_from : ℕ → Option LockRow → List Event → Option LockRow
row_from t row [] = row
row_from t row (e ∷ es) = row_from t (row_past t row e) es

-- the row of a ticket as these events tell it
abbrev pub row_told : ℕ → List Event → Option LockRow
row_told t events = row_from t None events

-- What the lock has of a seat's ticket is what the seat's own events tell: so a ticket that arrived and wasn't granted
-- waits, and one that was granted and not released is live.
abbrev pub OwnTells : Type 0
OwnTells = (s : EngineState) (log : List Event) (n t : ℕ) (r : LockRow) → History s log → row_told t (own_of n log) ≡ Some r
    → row_at t (lock_run start (moves_of log)).rows ≡ Some r
