-- What a pool knows of its devices gives what each of its operations promises.
use Rattle.std.proofs.Common.{◌≡◌, inl, ℕ, ◌≤◌, Bool, true, false, ◌&&◌, is_some, unwrap_or, List, [], Option, Some, None, refl, sym, ap, subst, arith}
use Rattle.st_units.specs.declared.cause.Cause.TheVariants.{OutOfMemory}
use Rattle.st_model.specs.declared.call.Call.{Call}
use Rattle.st_model.specs.declared.entry.Env.{Env}
use Rattle.st_model.specs.declared.info.PoolInfo.{PoolInfo}
use Rattle.st_model.specs.declared.info.ShownMode.TheVariants as shows
use Rattle.st_model.specs.declared.reply.Reply.{Reply}
use Rattle.st_model.specs.declared.state.PoolState.{PoolState}
use Rattle.st_model.specs.Answer.{refused}
use Rattle.st_model.specs.Local.{Outcome}
use Rattle.st_model.specs.Look.{devices_taken, is_up}
use Rattle.st_model.specs.Shown.{pool_info}
use Rattle.st_model.specs.Step.{outcome}
use Rattle.st_rack.specs.Device.{Path, State, Image, held}
use Rattle.st_rack.specs.Calls.{Devices}
use Rattle.st_image.specs.Kept.{Kept}
use Rattle.st_image.specs.Survivors.{in_flight, IsBefore, Survives}
use Rattle.st_books.specs.declared.books.Books.{Books}
use Rattle.st_books.specs.Ready.{stood}
use Rattle.st_pool.specs.Answered.{answered, counted, is_device_fault}
use Rattle.st_pool.specs.View.{PoolView, engine_of, mode_with, now, pool_with, view_of}
use Rattle.st_pool.specs.Known.{IsPool, IsUp, Stands}
use Rattle.st_pool.specs.Runs.{Runs, never_low}
use Rattle.st_pool.proofs.Standing.{down_same, survived_kept, up_kept, up_survived}

-- a moment that is the last and the first
only : (a k : ℕ) → a ≤ k → k ≤ a → a ≡ k
only a k from until = omega (arith, from, until)

self_le : (n : ℕ) → n ≤ n
self_le n = omega arith

-- what an info shows of a pool that a fault takes down
pub info_down : (b : Books) (m : Image) (call : Call) → pool_info (pool_with b (Some call) m) ≡ record (pool_info (pool_with b None m)) { mode = shows.Down }
unfolding pool_info
info_down b m call = refl

module _ {D : Type 0} (devs : D → Devices) (moment : D → ℕ) (state_at : D → ℕ → State) (faults : D → ℕ)
    (b : Books) (flight : Option Call) (list : List Path) (shown : PoolInfo) (spare : Option PoolInfo) (rack seen : D) (count : ℕ)
    (inv : IsPool devs moment state_at faults b flight list shown spare rack seen count) where
  abbrev at : D → State
  at r = now moment state_at r

  abbrev m : Image
  m = held (at seen)

  abbrev pool : PoolState
  pool = pool_with b flight m

  abbrev view : PoolView D
  view = view_of moment state_at b flight (is_some spare) rack seen count

  pub up_of : flight ≡ None → IsUp b (at rack) (at seen)
  up_of none = by flight none inv.stands
    where
      by : (o : Option Call) → o ≡ None → Stands b o (pool_with b o m) (devs rack) (at rack) (at seen) → IsUp b (at rack) (at seen)
      by None e up = up
      by (Some call) e down = absurd (cc)

  -- the devices keep the pool
  pub kept_now : Kept pool (devs rack) (at rack)
  kept_now = by flight inv.stands
    where
      by : (o : Option Call) → Stands b o (pool_with b o m) (devs rack) (at rack) (at seen) → Kept (pool_with b o m) (devs rack) (at rack)
      by None up = up_kept b (devs rack) (at rack) (at seen) up
      by (Some call) down = down

  abbrev Before : Call → Type 0
  Before call = (found : Option PoolState) → found ≡ Some (stood b m) → IsBefore (pool_with b (Some call) m) call found

  -- and, where it is up, the pool with a call in flight
  pub kept_flying : (call : Call) → devices_taken call ≡ [] → Before call → is_up pool.mode ≡ true → Kept (in_flight pool call) (devs rack) (at rack)
  kept_flying call none before up = by flight up inv.stands
    where
      by : (o : Option Call) → is_up (mode_with o) ≡ true → Stands b o (pool_with b o m) (devs rack) (at rack) (at seen) → Kept (in_flight (pool_with b o m) call) (devs rack) (at rack)
      by None up is =
          subst (λ (q : PoolState). Kept q (devs rack) (at rack)) (sym (down_same b m call))
          (survived_kept b m call (devs rack) (at rack) (λ found. Survives (pool_with b (Some call) m) call (devs rack) found) none (λ found s. s)
          (up_survived b (at rack) (at seen) (λ found. Survives (pool_with b (Some call) m) call (devs rack) found) is (inl (before (Some (stood b m)) refl))))
      by (Some other) up is = absurd (cc)

  -- an answer that changes nothing
  pub stays : (call : Call) → devices_taken call ≡ [] → Before call → (env : Env) (reply : Reply) → is_device_fault env ≡ false
      → outcome (engine_of pool (devs rack)) call env ≡ Some (reply, engine_of pool (devs rack))
      → Runs devs moment state_at faults never_low call view (answered env reply) view
  stays call none before env reply no_fault is = record {
    licensed = ap (λ (o : Outcome). is_some o) is;
    replied = sym (ap (λ (o : Outcome). (unwrap_or o (refused OutOfMemory, engine_of pool (devs rack))).0) is);
    becomes = ap (λ (o : Outcome). (unwrap_or o (refused OutOfMemory, engine_of pool (devs rack))).1.pools) is;
    twin = refl;
    low = sym (low (is_up pool.mode));
    cause = λ e. absurd (cc);
    counts = sym (ap (λ (t : Bool). counted t count) no_fault);
    same_devs = refl;
    crash = λ up k from until. subst (λ (j : ℕ). Kept (in_flight pool call) (devs rack) (state_at rack j)) (only (moment rack) k from until) (kept_flying call none before up);
    idle = λ down. (refl, refl);
    kept = kept_now;
    own = inv.is_on.own;
    spare = λ e. (e, refl);
  }
    where
      low : (t : Bool) → (t && false) ≡ false
      low true = refl
      low false = refl
