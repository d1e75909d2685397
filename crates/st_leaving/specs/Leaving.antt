-- A started pool leaves the others: it has been stopped, or is gone. What the others and the board are then.
use Rattle.std.specs.Prelude.{◌≡◌, ℕ, ◌+◌, ◌≤◌, min, true, false, List, [], ◌∷◌, ◌++◌, remove, Some, slice_get}
use Rattle.st_model.specs.declared.call.Call.{Call}
use Rattle.st_model.specs.declared.state.EngineState.{EngineState}
use Rattle.st_model.specs.declared.state.PoolState.{PoolState}
use Rattle.st_model.specs.Look.{is_started}
use Rattle.st_model.specs.Parts.{table_of}
use Rattle.st_model.specs.Step.{outcome}
use Rattle.st_rack.specs.Device.{State}
use Rattle.st_rack.specs.Calls.{Devices}
use Rattle.st_table.specs.Steps.{with_other}
use Rattle.st_pool.specs.declared.reply.PoolReply.{PoolReply}
use Rattle.st_pool.specs.Answered.{is_device_fault}
use Rattle.st_pool.specs.Halts.{HaltedView}
use Rattle.st_pool.specs.View.{PoolView}
use Rattle.st_board.specs.Changes.{without}
use Rattle.st_board.specs.Ran.{AreAll, HasRun}
use Rattle.st_board.specs.View.{BoardView, last}

-- The call comes out with this state, and the board, which has an info to give, tells of it. No device failed.
pub record Leaves {D : Type 0} (devs : D → Devices) (moment : D → ℕ) (state_at : D → ℕ → State) (faults : D → ℕ)
    (s after : EngineState) (call : Call) (answer : PoolReply) (cells : List (PoolView D)) (i : ℕ) (old : PoolView D) (was b : BoardView D) : Type 0 where
  pub all : AreAll devs moment state_at faults s cells was
  pub at : slice_get cells i ≡ Some old
  pub out : outcome s call answer.env ≡ Some (answer.reply, after)
  pub twin : answer.twin ≡ answer.reply
  pub low : answer.low ≡ false
  pub calm : is_device_fault answer.env ≡ false
  pub table : b.state ≡ table_of after
  pub shown : b.spare ≡ true

-- The started pool at a place has become one that isn't started, which is the last of the board's.
pub record OneStops {D : Type 0} (devs : D → Devices) (moment : D → ℕ) (state_at : D → ℕ → State) (faults : D → ℕ)
    (s : EngineState) (call : Call) (answer : PoolReply) (cells : List (PoolView D)) (i : ℕ) (old : PoolView D) (new : PoolState) (h : HaltedView D) (was b : BoardView D) : Type 0 where
  pub leaves : Leaves devs moment state_at faults s (with_other old.pool.name new s) call answer cells i old was b
  pub name : new.name ≡ old.pool.name
  pub idle : is_started new.mode ≡ false
  pub board : b ≡ record was { state = b.state; spare = b.spare; halted = was.halted ++ h ∷ [] }
  pub counts : h.faults ≡ old.faults

-- The started pool at a place is gone. Its rack has joined that of the free devices.
pub record OneGoes {D : Type 0} (devs : D → Devices) (moment : D → ℕ) (state_at : D → ℕ → State) (faults : D → ℕ)
    (s : EngineState) (call : Call) (answer : PoolReply) (cells : List (PoolView D)) (i : ℕ) (old : PoolView D) (rack : D) (was b : BoardView D) : Type 0 where
  pub leaves : Leaves devs moment state_at faults s (without old.pool s) call answer cells i old was b
  pub board : b ≡ record was { state = b.state; spare = b.spare; free = b.free; past = min (was.past + old.faults) last }
  pub counts : faults b.free ≡ min (faults was.free + faults rack) last
  pub counted : old.faults ≤ faults rack

-- so the call has run
abbrev pub OneHasStopped : {D : Type 0} (devs : D → Devices) (moment : D → ℕ) (state_at : D → ℕ → State) (faults : D → ℕ) → Type 0
OneHasStopped {D} devs moment state_at faults = (s : EngineState) (call : Call) (answer : PoolReply) (cells : List (PoolView D)) (i : ℕ) (old : PoolView D) (new : PoolState) (h : HaltedView D) (was b : BoardView D)
    → OneStops devs moment state_at faults s call answer cells i old new h was b → HasRun devs moment state_at faults s call answer cells was (remove cells i) b

abbrev pub OneHasGone : {D : Type 0} (devs : D → Devices) (moment : D → ℕ) (state_at : D → ℕ → State) (faults : D → ℕ) → Type 0
OneHasGone {D} devs moment state_at faults = (s : EngineState) (call : Call) (answer : PoolReply) (cells : List (PoolView D)) (i : ℕ) (old : PoolView D) (rack : D) (was b : BoardView D)
    → OneGoes devs moment state_at faults s call answer cells i old rack was b → HasRun devs moment state_at faults s call answer cells was (remove cells i) b
