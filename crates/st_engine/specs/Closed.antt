-- What became of an engine that was to be closed.
use Rattle.std.specs.Prelude.{◌≡◌, ℕ, ◌+◌, ◌<◌, ◌≤◌, List, length, Some}
use Rattle.std.specs.List.{AllByRecursion}
use Rattle.st_grants.specs.Order.{IsLeastTicket}
use Rattle.st_history.specs.declared.log.Event.{Event}
use Rattle.st_lock.specs.Closing.{IsAlone, IsQuiet, lock_counted, numbers_in}
use Rattle.st_lock.specs.Seats.{IsLater, LockSeat, lock_at}
use Rattle.st_rack.specs.Device.{State}
use Rattle.st_rack.specs.Calls.{Devices}
use Rattle.st_pool.specs.View.{IsKeptOn, PoolView}
use Rattle.st_board.specs.Holds.{IsBoardKept}
use Rattle.st_board.specs.View.{BoardView, pools_of}
use Rattle.st_running.specs.Part.{as_table, faults_out}

-- It is closed, with every other seat joined and no ticket left: the log, and the started pools and the board after it, which the
-- devices keep.
pub record IsClosed {D : Type 0} (devs : D → Devices) (moment : D → ℕ) (state_at : D → ℕ → State) (faults : D → ℕ) (v : LockSeat) (log : List Event) (cells : List (PoolView D)) (b : BoardView D) : Type 0 where
  pub quiet : IsQuiet v log (pools_of cells) (as_table faults b) (faults_out cells (Some b))
  pub kept : AllByRecursion (IsKeptOn devs moment state_at) cells × IsBoardKept devs moment state_at b

-- n other seats were made that aren't joined into this one, directly or through others.
pub record IsUnjoined (v back : LockSeat) (n : ℕ) : Type 0 where
  pub back_is : back ≡ lock_counted v n
  pub some : 0 < n
  pub others : ¬ (IsAlone v)
  pub all : v.counted ≤ n + length (numbers_in v)

-- This is the least ticket that isn't released.
pub record IsLeft (v back : LockSeat) (ticket : ℕ) : Type 0 where
  pub alone : IsAlone v
  pub later : IsLater (lock_counted v 0) back
  pub own : back.own ≡ v.own
  pub least : IsLeastTicket (lock_at back).rows ticket
