-- What making a pool asks, and what it promises.
use Rattle.std.specs.Prelude.{◌≡◌, ℕ, ◌≤◌, true, List, [], length, map}
use Rattle.st_limits.specs.declared.TheConstants.{MAX_POOL_DEVICES}
use Rattle.st_limits.specs.Sums.{IsDeviceSize}
use Rattle.st_units.specs.Causes.{Rose}
use Rattle.st_model.specs.declared.call.Call.TheVariants.{CreatePool}
use Rattle.st_model.specs.declared.entry.Env.{Env}
use Rattle.st_model.specs.declared.reply.Reply.{Reply}
use Rattle.st_model.specs.declared.state.EngineState.{EngineState}
use Rattle.st_model.specs.Step.{IsLicensed, step}
use Rattle.st_model.specs.steps.CreatePool.{broken_pool}
use Rattle.st_rack.specs.Device.{Path, State}
use Rattle.st_rack.specs.Calls.{Devices, Has, names}
use Rattle.st_rack.specs.Moments.{Always}
use Rattle.st_commit.specs.Ready.{AreDistinct, IsOf}
use Rattle.st_image.specs.Survivors.{row_of}
use Rattle.st_image.specs.Kept.{Kept}
use Rattle.st_making.specs.Made.{IsFree}
use Rattle.st_pool.specs.Answered.{counted, is_device_fault}
use Rattle.st_pool.specs.View.{IsOwn, PoolView, engine_of, now}

-- an engine that knows no pool, on these devices; its next pool gets this serial
abbrev pub engine_before : ℕ → Devices → EngineState
engine_before serial devs = record { pools = []; devices = map row_of devs; next = serial }

-- Devices that a pool of this serial may be made of: all of the rack, a few, each of a fit size and free for the pool.
pub record MayTake (serial : ℕ) (paths : List Path) (devs : Devices) (s : State) : Type 0 where
  pub some : 1 ≤ length paths
  pub few : length paths ≤ MAX_POOL_DEVICES
  pub own : AreDistinct paths
  pub each : (d : Path) → IsOf paths d → (n : ℕ) × Has devs d n × IsDeviceSize n × IsFree serial n (s d)
  pub all : (d : Path) (n : ℕ) → Has devs d n → names paths d ≡ true

-- The pool was made, or is down since a device failed meanwhile: what the model answers, what it makes, and what a crash leaves meanwhile.
pub record Makes {D : Type 0} (devs : D → Devices) (moment : D → ℕ) (state_at : D → ℕ → State) (faults : D → ℕ)
    (serial : ℕ) (name : List ℕ) (paths : List Path) (env : Env) (reply : Reply) (old : D) (new : PoolView D) : Type 0 where
  -- an engine without the pool answers so, and has this pool then
  pub licensed : IsLicensed (engine_before serial (devs old)) (CreatePool name paths) env
  pub answers : step (engine_before serial (devs old)) (CreatePool name paths) env ≡ (reply, engine_of new.pool (devs old))
  -- a fault is answered only where the rack's count rose, and is counted
  pub cause : is_device_fault env ≡ true → Rose (faults old) (faults new.rack)
  pub counts : new.faults ≡ counted (is_device_fault env) 0
  pub most : new.faults ≤ faults new.rack
  pub same_devs : devs new.rack ≡ devs old
  -- at each moment of the call its devices keep the pool with this call in flight
  pub crash : Always moment state_at (Kept (broken_pool serial name paths) (devs new.rack)) old new.rack
  -- after the call they keep what was made
  pub kept : Kept new.pool (devs new.rack) (now moment state_at new.rack)
  pub own : IsOwn new.pool (devs new.rack)
  pub spare : new.spare ≡ true
