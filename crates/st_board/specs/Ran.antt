-- What a call that takes every started pool and the board makes of them.
use Rattle.std.specs.Prelude.{◌≡◌, ℕ, ◌+◌, ◌<◌, ◌≤◌, Bool, false, List, Some, option_map, if◌then◌else◌}
use Rattle.std.specs.List.{AllByRecursion}
use Rattle.st_model.specs.declared.call.Call.{Call}
use Rattle.st_model.specs.declared.state.EngineState.{EngineState}
use Rattle.st_model.specs.Parts.{own, table_of, shown_table}
use Rattle.st_model.specs.Pieces.{ArePools, every}
use Rattle.st_model.specs.Shown.{pool_info}
use Rattle.st_model.specs.Step.{IsLicensed, step}
use Rattle.st_model.specs.Valid.{IsValid}
use Rattle.st_rack.specs.Device.{State}
use Rattle.st_rack.specs.Calls.{Devices}
use Rattle.st_pool.specs.declared.reply.PoolReply.{PoolReply}
use Rattle.st_pool.specs.Answered.{is_device_fault}
use Rattle.st_pool.specs.View.{IsKeptOn, PoolView}
use Rattle.st_board.specs.View.{BoardView, faults_with, last, pools_of, slack_of}

-- one more, or none
abbrev pub more : Bool → ℕ
more fault = if fault then 1 else 0

module _ {D : Type 0} (devs : D → Devices) (moment : D → ℕ) (state_at : D → ℕ → State) (faults : D → ℕ) where
  -- These pools and the board are those of the state, and each pool's devices keep it.
  pub record AreAll (s : EngineState) (cells : List (PoolView D)) (b : BoardView D) : Type 0 where
    pub valid : IsValid s
    pub pools : ArePools every s (pools_of cells)
    pub table : b.state ≡ table_of s
    pub kept : AllByRecursion (IsKeptOn devs moment state_at) cells

  -- The call ran in this state: it was answered as the model answers it for what it met, and what there is now stands for the state
  -- after it.
  pub record HasRun (s : EngineState) (call : Call) (answer : PoolReply) (old : List (PoolView D)) (was : BoardView D) (cells : List (PoolView D)) (b : BoardView D) : Type 0 where
    pub licensed : IsLicensed s call answer.env
    pub replied : answer.reply ≡ (step s call answer.env).0
    pub twin : answer.twin ≡ answer.reply
    pub low : answer.low ≡ false
    pub all : AreAll (step s call answer.env).1 cells b
    -- an info to give is missing only where nothing changed that it shows
    pub shown : AllByRecursion (λ (c : PoolView D). c.spare ≡ false → option_map pool_info (own c.pool.name s) ≡ Some (pool_info c.pool)) cells
    pub table_shown : b.spare ≡ false → shown_table (table_of s) ≡ shown_table b.state
    -- each fault that is answered is counted, as long as the counts go
    pub counts : faults_with old was < last → faults_with cells b ≡ faults_with old was + more (is_device_fault answer.env)
    pub slack : slack_of faults was ≤ slack_of faults b
