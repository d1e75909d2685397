-- What a start did after its syncs and reads, told from before them.
use Rattle.std.proofs.Common.{◌≡◌, ℕ, ◌≤◌, ◌-◌, ◌+◌, ◌^◌, min, List, [], Some, refl, sym, ◌∙◌, subst, arith}
use Rattle.st_units.specs.Causes.{Rose}
use Rattle.st_units.specs.declared.cause.Cause.TheVariants.{DeviceFault, PoolVanished}
use Rattle.st_model.specs.declared.entry.Env.{Env}
use Rattle.st_model.specs.declared.entry.Env.TheVariants.{FaultWrite}
use Rattle.st_model.specs.declared.state.PoolState.{PoolState}
use Rattle.st_model.specs.Answer.{refused}
use Rattle.st_model.specs.steps.StartPool.{started_reply}
use Rattle.st_rack.specs.Device.{Path, State, Image, held}
use Rattle.st_rack.specs.Calls.{Devices}
use Rattle.st_rack.specs.Moments.{Keeps}
use Rattle.st_rack.proofs.Moments.{keeps_on}
use Rattle.st_image.specs.Kept.{Kept}
use Rattle.st_pool.specs.Halts.{HaltedView}
use Rattle.st_pool.specs.Starts.{DidStart, IsMet, StartFails, StartRefused, Starts, StaysHalted, Vanishes, alone_start}
use Rattle.st_pool.specs.View.{PoolView, engine_of, now}
use Rattle.st_pool.specs.declared.started.Started.{Started}
use Rattle.st_pool.specs.declared.started.Started.TheVariants as did

rose_before : (a b n : ℕ) → a ≤ b → Rose b n → Rose a n
rose_before a b n le rose = omega (arith, le, rose)

module _ {D : Type 0} (devs : D → Devices) (moment : D → ℕ) (state_at : D → ℕ → State) (faults : D → ℕ) (pool : PoolState) (h : HaltedView D) (r1 : D)
    (same : devs r1 ≡ devs h.rack) (image : held (now moment state_at r1) ≡ held (now moment state_at h.rack)) (keeps : Keeps moment state_at (Kept pool (devs r1)) h.rack r1) (later : faults h.rack ≤ faults r1) where
  abbrev mid : HaltedView D
  mid = record h { rack = r1 }

  crash_before : (r2 : D) → devs r2 ≡ devs r1 → Keeps moment state_at (Kept pool (devs r2)) r1 r2 → Keeps moment state_at (Kept pool (devs r2)) h.rack r2
  crash_before r2 is since = keeps_on moment state_at (Kept pool (devs r2)) h.rack r1 r2 (subst (λ (ds : Devices). Keeps moment state_at (Kept pool ds) h.rack r1) (sym is) keeps) since

  met_before : (env : Env) → IsMet pool (devs r1) (held (now moment state_at r1)) env → IsMet pool (devs h.rack) (held (now moment state_at h.rack)) env
  met_before env met = subst (λ (x : Devices × Image). IsMet pool x.0 x.1 env) (λ i. (same i, image i)) met

  starts_before : (env : Env) (new : PoolView D) → Starts devs moment state_at faults pool mid env new → Starts devs moment state_at faults pool h env new
  starts_before env new did = record {
    answers = subst (λ (ds : Devices). alone_start pool ds env ≡ Some (started_reply pool, engine_of new.pool ds)) same did.answers;
    met = met_before env did.met;
    serial = did.serial;
    up = did.up;
    on = did.on;
    counts = did.counts;
    most = did.most;
    same_devs = did.same_devs ∙ same;
    crash = crash_before new.rack did.same_devs did.crash;
    kept = did.kept;
    own = did.own;
    spare = did.spare;
  }

  vanishes_before : (env : Env) (rack : D) → Vanishes devs moment state_at faults pool mid env rack → Vanishes devs moment state_at faults pool h env rack
  vanishes_before env rack did = record {
    answers = subst (λ (ds : Devices). alone_start pool ds env ≡ Some (refused PoolVanished, record (engine_of pool ds) { pools = [] })) same did.answers;
    met = met_before env did.met;
    same_devs = did.same_devs ∙ same;
    crash = crash_before rack did.same_devs did.crash;
    own = did.own;
    freed = did.freed;
    counted = did.counted;
  }

  stays_before : (back : HaltedView D) → StaysHalted devs moment state_at pool mid back → StaysHalted devs moment state_at pool h back
  stays_before back did = record { halts = did.halts; serial = did.serial; on = did.on; same_devs = did.same_devs ∙ same; crash = crash_before back.rack did.same_devs did.crash }

  fails_before : (back : HaltedView D) → StartFails devs moment state_at faults pool mid back → StartFails devs moment state_at faults pool h back
  fails_before back did = record {
    answers = subst (λ (ds : Devices). alone_start pool ds FaultWrite ≡ Some (refused DeviceFault, engine_of pool ds)) same did.answers;
    cause = rose_before (faults h.rack) (faults r1) (faults back.rack) later did.cause;
    counts = did.counts;
    most = did.most;
    stays = stays_before back did.stays;
  }

  pub did_before : (r : Started D) → DidStart devs moment state_at faults pool mid r → DidStart devs moment state_at faults pool h r
  did_before (did.Up new env) is = starts_before env new is
  did_before (did.Vanished rack env) is = vanishes_before env rack is
  did_before (did.Fault back) is = fails_before back is
  did_before (did.NoMemory back) is = record { counts = is.counts; most = is.most; stays = stays_before back is.stays }
