-- What an operation on a pool promises, whichever it is.
use Rattle.std.specs.Prelude.{◌≡◌, ℕ, Bool, true, false, ◌&&◌, [], ◌∷◌}
use Rattle.st_units.specs.Causes.{Rose}
use Rattle.st_model.specs.declared.call.Call.{Call}
use Rattle.st_model.specs.declared.state.PoolState.{PoolState}
use Rattle.st_model.specs.Look.{is_up}
use Rattle.st_model.specs.Shown.{pool_info}
use Rattle.st_model.specs.Step.{IsLicensed, step}
use Rattle.st_rack.specs.Device.{State}
use Rattle.st_rack.specs.Calls.{Devices}
use Rattle.st_rack.specs.Moments.{Always}
use Rattle.st_image.specs.Survivors.{in_flight}
use Rattle.st_image.specs.Kept.{Kept}
use Rattle.st_pool.specs.declared.reply.PoolReply.{PoolReply}
use Rattle.st_pool.specs.Answered.{is_device_fault, counted}
use Rattle.st_pool.specs.View.{IsOwn, PoolView, engine_of, now}

-- the pools for which no answer says that they are low
abbrev pub never_low : PoolState → Bool
never_low pool = false

-- The pool did this call: what is answered, what it becomes, and what a crash leaves meanwhile. An answer is low where the pool is up
-- and `is_low` after the call.
pub record Runs {D : Type 0} (devs : D → Devices) (moment : D → ℕ) (state_at : D → ℕ → State) (faults : D → ℕ) (is_low : PoolState → Bool)
    (call : Call) (old : PoolView D) (answer : PoolReply) (new : PoolView D) : Type 0 where
  -- the reply and the state are the model's, on an engine with this pool alone
  pub licensed : IsLicensed (engine_of old.pool (devs old.rack)) call answer.env
  pub replied : answer.reply ≡ (step (engine_of old.pool (devs old.rack)) call answer.env).0
  pub becomes : (step (engine_of old.pool (devs old.rack)) call answer.env).1.pools ≡ new.pool ∷ []
  pub twin : answer.twin ≡ answer.reply
  pub low : answer.low ≡ (is_up new.pool.mode && is_low new.pool)
  -- a fault is answered only where the rack's count rose, and is counted
  pub cause : is_device_fault answer.env ≡ true → Rose (faults old.rack) (faults new.rack)
  pub counts : new.faults ≡ counted (is_device_fault answer.env) old.faults
  pub same_devs : devs new.rack ≡ devs old.rack
  -- at each moment of a call of a pool that is up, its devices keep it as a pool with this call in flight
  pub crash : is_up old.pool.mode ≡ true → Always moment state_at (Kept (in_flight old.pool call) (devs new.rack)) old.rack new.rack
  -- a pool that is down makes no device call
  pub idle : is_up old.pool.mode ≡ false → (moment new.rack ≡ moment old.rack) × (state_at new.rack ≡ state_at old.rack)
  -- after the call they keep what it has become
  pub kept : Kept new.pool (devs new.rack) (now moment state_at new.rack)
  pub own : IsOwn new.pool (devs new.rack)
  -- an info to give is missing only where it was missing, and nothing changed that an info shows
  pub spare : new.spare ≡ false → (old.spare ≡ false) × (pool_info new.pool ≡ pool_info old.pool)
