-- What a start of a halted pool promises.
use Rattle.std.specs.Prelude.{◌≡◌, ℕ, ◌+◌, ◌≤◌, true, List, [], Some, None, slice_get}
use Rattle.st_fields.specs.Slot.{Found}
use Rattle.st_units.specs.Causes.{Rose}
use Rattle.st_units.specs.declared.cause.Cause.TheVariants.{DeviceFault, PoolVanished}
use Rattle.st_model.specs.declared.call.Call.TheVariants.{StartPool}
use Rattle.st_model.specs.declared.call.PoolId.TheVariants.{ByName}
use Rattle.st_model.specs.declared.entry.Env.{Env}
use Rattle.st_model.specs.declared.entry.Env.TheVariants.{Plain, NoMem, FaultRead, FaultWrite, After, Before}
use Rattle.st_model.specs.declared.state.PoolMode.TheVariants.{Up}
use Rattle.st_model.specs.declared.state.PoolState.{PoolState}
use Rattle.st_model.specs.Answer.{refused}
use Rattle.st_model.specs.Local.{Outcome}
use Rattle.st_model.specs.Look.{flight_of}
use Rattle.st_model.specs.Step.{can_start, outcome}
use Rattle.st_model.specs.steps.StartPool.{started_reply}
use Rattle.st_rack.specs.Device.{Path, State, Image, held}
use Rattle.st_rack.specs.Calls.{Devices}
use Rattle.st_rack.specs.Moments.{Keeps}
use Rattle.st_image.specs.Bears.{newest_over, paths}
use Rattle.st_image.specs.Kept.{Kept, in_use}
use Rattle.st_pool.specs.declared.started.Started.{Started}
use Rattle.st_pool.specs.declared.started.Started.TheVariants as did
use Rattle.st_pool.specs.Answered.{counted}
use Rattle.st_pool.specs.Ends.{IsFreed}
use Rattle.st_pool.specs.Halts.{Halts, HaltedView}
use Rattle.st_pool.specs.View.{IsOwn, PoolView, engine_of, now}

-- the start of this pool, in an engine that knows it alone
abbrev pub alone_start : PoolState → Devices → Env → Outcome
alone_start pool devs env = outcome (engine_of pool devs) (StartPool (ByName pool.name)) env

-- how many commits the newest record tells of
abbrev pub commits_in : Found → ℕ
commits_in None = 0
commits_in (Some x) = x.0

-- What was met, by what the devices read as once they were synced, which changes no content: without a call in flight nothing; with one, that
-- the pool was found after it just where the newest record is one above the pool's commits.
abbrev pub IsMet : PoolState → Devices → Image → Env → Type 0
IsMet pool devs c Plain = flight_of pool.mode ≡ None
IsMet pool devs c NoMem = ⊥
IsMet pool devs c FaultRead = ⊥
IsMet pool devs c FaultWrite = ⊥
IsMet pool devs c After = commits_in (newest_over pool.serial devs c) ≡ pool.commits + 1
IsMet pool devs c (Before bytes) = (bytes ≡ []) × (commits_in (newest_over pool.serial devs c) ≡ pool.commits)

module _ {D : Type 0} (devs : D → Devices) (moment : D → ℕ) (state_at : D → ℕ → State) where
  -- The halted pool stands for one that can be started.
  abbrev pub HaltsSome : HaltedView D → Type 0
  HaltsSome h = (pool : PoolState) × Halts devs moment state_at pool h × (can_start pool.mode ≡ true)

  -- at each moment of the call the devices keep the pool as it was halted
  abbrev pub KeepsIt : PoolState → D → D → Type 0
  KeepsIt pool old new = Keeps moment state_at (Kept pool (devs new)) old new

  -- It is up.
  pub record Starts (faults : D → ℕ) (pool : PoolState) (old : HaltedView D) (env : Env) (new : PoolView D) : Type 0 where
    pub answers : alone_start pool (devs old.rack) env ≡ Some (started_reply pool, engine_of new.pool (devs old.rack))
    pub met : IsMet pool (devs old.rack) (held (now moment state_at old.rack)) env
    pub serial : new.pool.serial ≡ pool.serial
    pub up : new.pool.mode ≡ Up
    pub on : paths (in_use new.pool (devs new.rack)) ≡ old.devs
    pub counts : new.faults ≡ old.faults
    pub most : new.faults ≤ faults new.rack
    pub same_devs : devs new.rack ≡ devs old.rack
    pub crash : KeepsIt pool old.rack new.rack
    pub kept : Kept new.pool (devs new.rack) (now moment state_at new.rack)
    pub own : IsOwn new.pool (devs new.rack)
    pub spare : new.spare ≡ true

  -- It is known no more, and its devices are free.
  pub record Vanishes (faults : D → ℕ) (pool : PoolState) (old : HaltedView D) (env : Env) (rack : D) : Type 0 where
    pub answers : alone_start pool (devs old.rack) env ≡ Some (refused PoolVanished, record (engine_of pool (devs old.rack)) { pools = [] })
    pub met : IsMet pool (devs old.rack) (held (now moment state_at old.rack)) env
    pub same_devs : devs rack ≡ devs old.rack
    pub crash : KeepsIt pool old.rack rack
    pub own : IsOwn pool (devs rack)
    pub freed : (k : ℕ) (d : Path × ℕ) → slice_get (in_use pool (devs rack)) k ≡ Some d → IsFreed pool.serial d.1 (now moment state_at rack d.0)
    -- the rack has counted each fault that an operation on the pool met
    pub counted : old.faults ≤ faults rack

  -- It stays halted, on the same devices.
  pub record StaysHalted (pool : PoolState) (old new : HaltedView D) : Type 0 where
    pub halts : Halts devs moment state_at pool new
    pub serial : new.serial ≡ old.serial
    pub on : new.devs ≡ old.devs
    pub same_devs : devs new.rack ≡ devs old.rack
    pub crash : KeepsIt pool old.rack new.rack

  -- A device failed. Each start syncs before it reads, so a fault is one on a write.
  pub record StartFails (faults : D → ℕ) (pool : PoolState) (old new : HaltedView D) : Type 0 where
    pub answers : alone_start pool (devs old.rack) FaultWrite ≡ Some (refused DeviceFault, engine_of pool (devs old.rack))
    pub cause : Rose (faults old.rack) (faults new.rack)
    pub counts : new.faults ≡ counted true old.faults
    pub most : new.faults ≤ faults new.rack
    pub stays : StaysHalted pool old new

  -- Memory was refused.
  pub record StartRefused (faults : D → ℕ) (pool : PoolState) (old new : HaltedView D) : Type 0 where
    pub counts : new.faults ≡ old.faults
    pub most : new.faults ≤ faults new.rack
    pub stays : StaysHalted pool old new

  -- so it is of each
  abbrev pub DidStart : (D → ℕ) → PoolState → HaltedView D → Started D → Type 0
  DidStart faults pool old (did.Up new env) = Starts faults pool old env new
  DidStart faults pool old (did.Vanished rack env) = Vanishes faults pool old env rack
  DidStart faults pool old (did.Fault back) = StartFails faults pool old back
  DidStart faults pool old (did.NoMemory back) = StartRefused faults pool old back
