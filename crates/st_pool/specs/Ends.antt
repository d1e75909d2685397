-- What is left of a pool that ended.
use Rattle.std.specs.Prelude.{◌≡◌, ℕ, ◌<◌, ◌≤◌, true, List, [], Some, slice_get}
use Rattle.st_model.specs.declared.call.Call.TheVariants.{DestroyPool}
use Rattle.st_model.specs.declared.entry.Env.TheVariants.{Plain}
use Rattle.st_model.specs.declared.reply.Given.TheVariants.{Changed}
use Rattle.st_model.specs.declared.reply.Identity.TheVariants.{Pool}
use Rattle.st_model.specs.Answer.{accepted}
use Rattle.st_model.specs.Step.{step}
use Rattle.st_deltalog.specs.Bearing.{IsSettled}
use Rattle.st_deltalog.specs.Log.{serial_in}
use Rattle.st_rack.specs.Device.{Path, DevState, State}
use Rattle.st_rack.specs.Calls.{Devices}
use Rattle.st_rack.specs.Moments.{Always}
use Rattle.st_image.specs.Looks.{slot_on}
use Rattle.st_image.specs.Bears.{newest_on}
use Rattle.st_image.specs.Survivors.{in_flight}
use Rattle.st_image.specs.Kept.{Kept, NoneOrGone, in_use}
use Rattle.st_pool.specs.View.{IsOwn, PoolView, engine_of, now}

-- Nothing is pending on a device of so many sectors; read alone no pool stands on it, and each valid slot for records is of the pool of
-- this serial.
pub record IsFreed (p sectors : ℕ) (s : DevState) : Type 0 where
  pub settled : IsSettled s
  pub alone : (q : ℕ) → NoneOrGone (newest_on q sectors s.holds)
  pub slots : (place : ℕ) → place < 2 → (x : ℕ × List ℕ) → slot_on sectors place s.holds ≡ Some x → serial_in x.1 ≡ p

-- The pool is gone: so the model answers, and its devices are free.
pub record IsGone {D : Type 0} (devs : D → Devices) (moment : D → ℕ) (state_at : D → ℕ → State) (faults : D → ℕ) (old : PoolView D) (rack : D) : Type 0 where
  pub ends : step (engine_of old.pool (devs old.rack)) (DestroyPool old.pool.name) Plain
      ≡ (accepted (Changed true (Some (Pool old.pool.serial))), record (engine_of old.pool (devs old.rack)) { pools = [] })
  pub same_devs : devs rack ≡ devs old.rack
  -- at each moment of the call its devices keep the pool with this call in flight
  pub crash : Always moment state_at (Kept (in_flight old.pool (DestroyPool old.pool.name)) (devs rack)) old.rack rack
  pub own : IsOwn old.pool (devs rack)
  pub freed : (k : ℕ) (d : Path × ℕ) → slice_get (in_use old.pool (devs rack)) k ≡ Some d → IsFreed old.pool.serial d.1 (now moment state_at rack d.0)
  -- the rack has counted each fault that an operation on the pool met
  pub counted : old.faults ≤ faults rack
