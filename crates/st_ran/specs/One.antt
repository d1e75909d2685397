-- One started pool does a call, and the others and the board stay; or nothing changes.
use Rattle.std.specs.Prelude.{◌≡◌, ◌⊎◌, ℕ, true, false, List, [], ◌∷◌, ◌++◌, remove, Some, None, slice_get}
use Rattle.st_model.specs.declared.call.Call.{Call}
use Rattle.st_model.specs.declared.state.EngineState.{EngineState}
use Rattle.st_model.specs.Look.{is_started}
use Rattle.st_model.specs.Parts.{pool_at, table_of, shown_table}
use Rattle.st_model.specs.Step.{outcome}
use Rattle.st_rack.specs.Device.{State}
use Rattle.st_rack.specs.Calls.{Devices}
use Rattle.st_table.specs.Steps.{with_other}
use Rattle.st_beside.specs.Beside.{beside}
use Rattle.st_pool.specs.declared.reply.PoolReply.{PoolReply}
use Rattle.st_pool.specs.Answered.{is_device_fault}
use Rattle.st_pool.specs.Runs.{Runs, never_low}
use Rattle.st_pool.specs.View.{PoolView, engine_of}
use Rattle.st_board.specs.Ran.{AreAll, HasRun}
use Rattle.st_board.specs.View.{BoardView, faults_of, slack_of}

-- The started pool at a place did the call; the board tells of what it has become, and nothing else of it has changed.
pub record OneRuns {D : Type 0} (devs : D → Devices) (moment : D → ℕ) (state_at : D → ℕ → State) (faults : D → ℕ)
    (s : EngineState) (call : Call) (answer : PoolReply) (cells : List (PoolView D)) (i : ℕ) (old new : PoolView D) (was b : BoardView D) : Type 0 where
  pub all : AreAll devs moment state_at faults s cells was
  pub at : slice_get cells i ≡ Some old
  pub runs : Runs devs moment state_at faults never_low call old answer new
  -- beside the others the call does what it does to the pool alone
  pub alone : outcome s call answer.env ≡ beside old.pool s (outcome (engine_of old.pool (devs old.rack)) call answer.env)
  pub free : (new.pool.name ≡ old.pool.name) ⊎ (pool_at new.pool.name s.pools ≡ None)
  pub started : is_started new.pool.mode ≡ true
  pub table : b.state ≡ table_of (with_other old.pool.name new.pool s)
  pub shown : b.spare ≡ false → shown_table (table_of s) ≡ shown_table b.state
  pub same_faults : faults_of b ≡ faults_of was
  pub same_slack : slack_of faults b ≡ slack_of faults was

-- so the call has run
abbrev pub OneHasRun : {D : Type 0} (devs : D → Devices) (moment : D → ℕ) (state_at : D → ℕ → State) (faults : D → ℕ) → Type 0
OneHasRun {D} devs moment state_at faults = (s : EngineState) (call : Call) (answer : PoolReply) (cells : List (PoolView D)) (i : ℕ) (old new : PoolView D) (was b : BoardView D)
    → OneRuns devs moment state_at faults s call answer cells i old new was b → HasRun devs moment state_at faults s call answer cells was (remove cells i ++ new ∷ []) b

-- The call comes out with nothing changed, and no device failed.
pub record NoneRuns {D : Type 0} (devs : D → Devices) (moment : D → ℕ) (state_at : D → ℕ → State) (faults : D → ℕ) (s : EngineState) (call : Call) (answer : PoolReply) (cells : List (PoolView D)) (b : BoardView D) : Type 0 where
  pub all : AreAll devs moment state_at faults s cells b
  pub out : outcome s call answer.env ≡ Some (answer.reply, s)
  pub twin : answer.twin ≡ answer.reply
  pub low : answer.low ≡ false
  pub calm : is_device_fault answer.env ≡ false

abbrev pub NoneHasRun : {D : Type 0} (devs : D → Devices) (moment : D → ℕ) (state_at : D → ℕ → State) (faults : D → ℕ) → Type 0
NoneHasRun {D} devs moment state_at faults = (s : EngineState) (call : Call) (answer : PoolReply) (cells : List (PoolView D)) (b : BoardView D)
    → NoneRuns devs moment state_at faults s call answer cells b → HasRun devs moment state_at faults s call answer cells b cells b
