-- What a StartPool did to devices.
use Rattle.std.specs.Prelude.{◌≡◌, ℕ, false, List, [], ◌∷◌, ◌++◌, remove, Some, slice_get}
use Rattle.st_model.specs.declared.call.PoolId.{PoolId}
use Rattle.st_model.specs.declared.entry.Env.{Env}
use Rattle.st_model.specs.declared.entry.Env.TheVariants.{FaultWrite, NoMem}
use Rattle.st_model.specs.declared.state.EngineState.{EngineState}
use Rattle.st_model.specs.declared.state.PoolState.{PoolState}
use Rattle.st_model.specs.steps.StartPool.{pool_meant}
use Rattle.st_rack.specs.Device.{State}
use Rattle.st_rack.specs.Calls.{Devices}
use Rattle.st_rack.specs.Parts.{Joins}
use Rattle.st_pool.specs.Answered.{is_device_fault}
use Rattle.st_pool.specs.Halts.{Halts, HaltedView}
use Rattle.st_pool.specs.Starts.{StartFails, StartRefused, Starts, Vanishes}
use Rattle.st_pool.specs.View.{PoolView}
use Rattle.st_board.specs.View.{BoardView}

module _ {D : Type 0} (devs : D → Devices) (moment : D → ℕ) (state_at : D → ℕ → State) (faults : D → ℕ) where
  -- At this place is the halted pool that stands for the one that is meant.
  pub record IsAsked (s : EngineState) (id : PoolId) (halted : List (HaltedView D)) (i : ℕ) (p : PoolState) (h : HaltedView D) : Type 0 where
    pub meant : pool_meant id s ≡ Some p
    pub at : slice_get halted i ≡ Some h
    pub halts : Halts devs moment state_at p h

  -- What was met on the pool's own rack: each start of a halted pool tells what its devices keep at each moment, and a fault only where one
  -- of them failed. No other rack was called.
  pub data DidWake (s : EngineState) (id : PoolId) (env : Env) (old : List (PoolView D)) (was : BoardView D) (cells : List (PoolView D)) (b : BoardView D) : Type 0 where
    Untouched : is_device_fault env ≡ false → cells ≡ old → b ≡ was → DidWake s id env old was cells b
    -- it is the last of the started ones now
    Woken : (i : ℕ) (p : PoolState) (h : HaltedView D) (new : PoolView D) → IsAsked s id was.halted i p h → Starts devs moment state_at faults p h env new
        → cells ≡ old ++ new ∷ [] → b.free ≡ was.free → b.halted ≡ remove was.halted i → DidWake s id env old was cells b
    -- its rack has joined that of the free devices
    Vanished : (i : ℕ) (p : PoolState) (h : HaltedView D) (rack : D) → IsAsked s id was.halted i p h → Vanishes devs moment state_at faults p h env rack
        → cells ≡ old → Joins devs moment state_at was.free rack b.free → b.halted ≡ remove was.halted i → DidWake s id env old was cells b
    -- it is the last of those that aren't started
    Failed : (i : ℕ) (p : PoolState) (h back : HaltedView D) → IsAsked s id was.halted i p h → env ≡ FaultWrite → StartFails devs moment state_at faults p h back
        → cells ≡ old → b.free ≡ was.free → b.halted ≡ remove was.halted i ++ back ∷ [] → DidWake s id env old was cells b
    Refused : (i : ℕ) (p : PoolState) (h back : HaltedView D) → IsAsked s id was.halted i p h → env ≡ NoMem → StartRefused devs moment state_at faults p h back
        → cells ≡ old → b.free ≡ was.free → b.halted ≡ remove was.halted i ++ back ∷ [] → DidWake s id env old was cells b
