-- The board while one of its pools that aren't started is out.
use Rattle.std.specs.Prelude.{◌≡◌, ℕ, ◌+◌, ◌≤◌, ◌==◌, Bool, true, false, List, length, map, Some, None}
use Rattle.std.specs.List.{IsDistinct}
use Rattle.st_limits.specs.declared.TheConstants.{MAX_POOLS}
use Rattle.st_units.specs.Roomy.{Roomy}
use Rattle.st_model.specs.declared.state.EngineState.{EngineState}
use Rattle.st_model.specs.declared.state.PoolState.{PoolState}
use Rattle.st_model.specs.declared.state.TableState.{TableState}
use Rattle.st_model.specs.Look.{is_started}
use Rattle.st_model.specs.Parts.{table_of}
use Rattle.st_model.specs.Step.{can_start}
use Rattle.st_model.specs.Valid.{IsValid}
use Rattle.st_rack.specs.Device.{State}
use Rattle.st_rack.specs.Calls.{Devices}
use Rattle.st_table.specs.Stands.{Stands}
use Rattle.st_table.specs.Steps.{with_other}
use Rattle.st_table.specs.Table.{TableView}
use Rattle.st_pool.specs.Halts.{Halts, HaltedView}
use Rattle.st_pool.specs.View.{now}
use Rattle.st_board.specs.Free.{AreTheFree, AreFreeFor}
use Rattle.st_board.specs.Holds.{Fits, HasOthers, halted_at, stopped_at}
use Rattle.st_board.specs.Changes.{Goes, IsFreedOn, Turns, without}

-- what contracts see of it: the board's, and the serial of the pool that is out
pub record LentView (D : Type 0) : Type 0 where
  pub state : TableState
  pub spare : Bool
  pub free : D
  pub halted : List (HaltedView D)
  pub past : ℕ
  pub out : ℕ

module _ {D : Type 0} (devs : D → Devices) (moment : D → ℕ) (state_at : D → ℕ → State) where
  -- for each other serial: the pool that isn't started, on its devices
  pub record AreHaltedBut (out : ℕ) (stopped : List PoolState) (halted : List (HaltedView D)) : Type 0 where
    pub each : (q : ℕ) → (q == out) ≡ false → Fits devs moment state_at (stopped_at q stopped) (halted_at q halted)
    pub none : halted_at out halted ≡ None
    pub once : IsDistinct (λ (a b : ℕ). a == b) (map (λ h. h.serial) halted)
    pub count : length halted + 1 ≡ length stopped

  -- The racks are those of the table's free devices and of its other pools that aren't started, and they keep them.
  pub record KeepsBut (out : ℕ) (t : TableState) (free : D) (halted : List (HaltedView D)) : Type 0 where
    pub the_free : AreTheFree t (devs free)
    pub settled : AreFreeFor t (devs free) (now moment state_at free)
    pub others : AreHaltedBut out t.stopped halted
    pub lacking : (q : ℕ) → (q == out) ≡ false → HasOthers devs t.devices (stopped_at q t.stopped) (halted_at q halted)

  -- The table tells of the state, which is that of a valid one, and the racks keep it but for that pool.
  pub record HoldsBut (faults spare : D → ℕ) (out : ℕ) (table : TableView) (free : D) (halted : Roomy (HaltedView D)) (past : ℕ) (t : TableState) : Type 0 where
    pub whole : EngineState
    pub valid : IsValid whole
    pub is : table_of whole ≡ t
    pub tells : Stands table t
    pub keeps : KeepsBut out t free halted.items
    pub counted : past ≤ faults free
    pub places : length t.devices ≤ spare free + length (devs free)
    pub room : MAX_POOLS ≤ length halted.items + halted.room

  -- The halted pool stands for the one that is out, which can be started.
  pub record IsTheOne (out : ℕ) (t : TableState) (h : HaltedView D) : Type 0 where
    pub pool : PoolState
    pub here : stopped_at out t.stopped ≡ Some pool
    pub can : can_start pool.mode ≡ true
    pub halts : Halts devs moment state_at pool h

  -- The pool that is out is known no more, and on this rack are just its devices; the other table is that of the state then.
  pub record HasVanished (t u : TableState) (out : ℕ) (rack : D) : Type 0 where
    pub state : EngineState
    pub pool : PoolState
    pub goes : Goes state pool
    pub was : table_of state ≡ t
    pub is : table_of (without pool state) ≡ u
    pub serial : pool.serial ≡ out
    pub halted : is_started pool.mode ≡ false
    pub freed : IsFreedOn devs moment state_at state pool rack

-- The pool that is out has become a started one, which uses the same devices; the other table is that of the state then.
pub record HasWoken (t u : TableState) (out : ℕ) : Type 0 where
  pub state : EngineState
  pub pool : PoolState
  pub new : PoolState
  pub turns : Turns state pool new
  pub was : table_of state ≡ t
  pub is : table_of (with_other pool.name new state) ≡ u
  pub serial : pool.serial ≡ out
  pub halted : is_started pool.mode ≡ false
  pub up : is_started new.mode ≡ true
