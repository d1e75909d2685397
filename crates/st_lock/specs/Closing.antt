-- what is known of a lock at its close
use Rattle.std.specs.Prelude.{ℕ, ◌≡◌, ◌+◌, ◌<◌, ◌≤◌, ◌^◌, List, [], ◌∷◌, map, length, Some}
use mathlib.Core.List.{IsPrefix}
use Rattle.st_turn.specs.declared.knowledge.Claim.{Claim}
use Rattle.st_turn.specs.Lists.{Account, AreAmong, number_of}
use Rattle.st_turn.specs.Views.{HasAll}
use Rattle.st_wants.specs.declared.want.Want.TheVariants.{All}
use Rattle.st_wants.specs.declared.want.Mode.TheVariants.{Write}
use Rattle.st_wants.specs.Lock.{start}
use Rattle.st_wants.specs.Rules.{lock_run}
use Rattle.st_model.specs.declared.state.PoolState.{PoolState}
use Rattle.st_history.specs.declared.log.Event.{Event}
use Rattle.st_history.specs.Failures.{failures}
use Rattle.st_history.specs.History.{History, moves_of, replay}
use Rattle.st_history.specs.Own.{seat_of, own_of}
use Rattle.st_book.specs.declared.noted.Noted.{Noted}
use Rattle.st_book.specs.Stands.{PartStands}
use Rattle.st_book.specs.View.{TableView}
use Rattle.st_lock.specs.Opening.{events_of}
use Rattle.st_lock.specs.Seats.{LockSeat}

-- the numbers that the seat answers for
abbrev pub numbers_in : LockSeat → List ℕ
numbers_in v = v.number ∷ map number_of v.taken_over

-- every other seat was joined into this one, directly or through others
abbrev pub IsAlone : LockSeat → Type 0
IsAlone v = HasAll (numbers_in v) v.made

-- the seat once it counted: n numbers were dealt that it doesn't answer for
abbrev pub lock_counted : LockSeat → ℕ → LockSeat
lock_counted v n = record v { counted = n + length (numbers_in v) }

-- the claim of a seat that was taken over, without the numbers of faults
abbrev pub plain_claim : Claim Noted → Claim Event
plain_claim c = record { number = c.number; events = events_of c.events }

-- The log has of each number that the seat answers for just the events that are noted, and no other.
pub record IsAccount (v : LockSeat) (log : List Event) : Type 0 where
  pub own : own_of v.number log ≡ events_of v.own
  pub taken_over : Account seat_of log (map plain_claim v.taken_over)
  pub all : AreAmong seat_of (numbers_in v) log

-- A lock that was closed with no ticket left: its log, and the cells and the table after it.
pub record IsQuiet (v : LockSeat) (log : List Event) (cells : List PoolState) (table : TableView) (faults : ℕ) : Type 0 where
  pub alone : IsAlone v
  pub seen : IsPrefix (events_of v.seen) log
  pub account : IsAccount v log
  pub history : History v.opening.state log
  pub released : (lock_run start (moves_of log)).rows ≡ []
  pub part : PartStands (All Write) (replay v.opening.state log) cells (Some table)
  pub slack : v.opening.base ≤ table.slack
  pub faults_are : length log < 2 ^ 62 → failures log ≡ faults
