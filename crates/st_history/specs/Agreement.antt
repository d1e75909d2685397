-- what a log says of a ticket that is held
use Rattle.std.specs.Prelude.{ℕ, ◌≡◌, ◌==◌, Bool, true, false, List, ◌++◌, Some, slice_get}
use Rattle.std.specs.List.{AllByRecursion}
use Rattle.st_wants.specs.declared.row.LockRow.{LockRow}
use Rattle.st_wants.specs.Lock.{start, row_at, IsLive}
use Rattle.st_wants.specs.Rules.{lock_run}
use Rattle.st_model.specs.declared.state.EngineState.{EngineState}
use Rattle.st_model.specs.Parts.{Agree}
use Rattle.st_history.specs.declared.log.Event.{Event}
use Rattle.st_history.specs.declared.log.Event.TheVariants.{Arrive, Grant, Release}
use Rattle.st_history.specs.History.{History, moves_of, replay}

abbrev pub releases : ℕ → Event → Bool
releases t (Arrive seat ticket want) = false
releases t (Grant seat ticket) = false
releases t (Release seat ticket entries) = ticket == t

-- no event releases the ticket
abbrev pub NotReleased : ℕ → List Event → Type 0
NotReleased t log = AllByRecursion (λ e. releases t e ≡ false) log

-- While a ticket is held, what it wants is the same: after a history, and after one that goes on without releasing it.
abbrev pub LogsAgreeOnHeld : Type 0
LogsAgreeOnHeld = (s : EngineState) (log more : List Event) (t : ℕ) (r : LockRow) → History s (log ++ more)
    → row_at t (lock_run start (moves_of log)).rows ≡ Some r → r.live ≡ true → NotReleased t more
    → Agree r.want (replay s log) (replay s (log ++ more))

-- a ticket that a history grants and doesn't release is live after it
abbrev pub GrantedIsLive : Type 0
GrantedIsLive = (s : EngineState) (log : List Event) (i t seat : ℕ) → History s log → slice_get log i ≡ Some (Grant seat t)
    → NotReleased t log → IsLive (lock_run start (moves_of log)) t
