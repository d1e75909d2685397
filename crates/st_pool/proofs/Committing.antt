-- A commit of a pool that is up: what it promises where a device fails, and what of it stays.
use Rattle.std.proofs.Common.{◌≡◌, ℕ, ◌+◌, ◌-◌, ◌^◌, ◌≤◌, min, true, is_some, unwrap_or, List, [], ◌∷◌, Option, Some, None, refl, sym, ◌∙◌, ap, subst, arith}
use Rattle.st_units.specs.Causes.{Rose}
use Rattle.st_units.specs.declared.cause.Cause.TheVariants.{DeviceFault, OutOfMemory}
use Rattle.st_model.specs.declared.call.Call.{Call}
use Rattle.st_model.specs.declared.entry.Env.TheVariants.{FaultWrite}
use Rattle.st_model.specs.declared.info.PoolInfo.{PoolInfo}
use Rattle.st_model.specs.declared.info.ShownMode.TheVariants as shows
use Rattle.st_model.specs.declared.state.PoolState.{PoolState}
use Rattle.st_model.specs.Answer.{refused}
use Rattle.st_model.specs.Local.{Outcome}
use Rattle.st_model.specs.Look.{devices_taken}
use Rattle.st_model.specs.Shown.{pool_info}
use Rattle.st_model.specs.Step.{outcome}
use Rattle.st_rack.specs.Device.{Path, State, Image, held}
use Rattle.st_rack.specs.Calls.{Devices, Has, names}
use Rattle.st_rack.specs.Moments.{Always, Keeps}
use Rattle.st_image.specs.Bears.{paths}
use Rattle.st_image.specs.Kept.{Kept, in_use}
use Rattle.st_image.specs.Survivors.{in_flight, Survives}
use Rattle.st_books.specs.declared.books.Books.{Books}
use Rattle.st_books.specs.Survived.{Survived}
use Rattle.st_books.specs.Ready.{AreThere, rows_of}
use Rattle.st_pool.specs.Answered.{counted, failed}
use Rattle.st_pool.specs.Flights.{IsPoolCall}
use Rattle.st_pool.specs.View.{IsOwn, engine_of, now, pool_with, view_of}
use Rattle.st_pool.specs.Known.{IsPool}
use Rattle.st_pool.specs.Runs.{Runs, never_low}
use Rattle.st_pool.proofs.Standing.{down_same, rows_are, survived_kept}

self_le : (n : ℕ) → n ≤ n
self_le n = omega arith

-- what an info shows of a pool that a fault takes down
info_down : (b : Books) (m : Image) (call : Call) → pool_info (pool_with b (Some call) m) ≡ record (pool_info (pool_with b None m)) { mode = shows.Down }
unfolding pool_info
info_down b m call = refl

module _ {D : Type 0} (devs : D → Devices) (moment : D → ℕ) (state_at : D → ℕ → State) (faults : D → ℕ)
    (b : Books) (list : List Path) (shown : PoolInfo) (spare : Option PoolInfo) (rack seen : D) (count : ℕ)
    (inv : IsPool devs moment state_at faults b None list shown spare rack seen count) where
  abbrev at : D → State
  at r = now moment state_at r

  abbrev m : Image
  m = held (at seen)

  abbrev pool : PoolState
  pool = pool_with b None m

  rows_now : in_use pool (devs rack) ≡ rows_of b.rec
  rows_now = rows_are b m None (devs rack) refl

  pub rows_path : paths (rows_of b.rec) ≡ list
  rows_path = ap paths (sym rows_now) ∙ inv.is_on.on

  pub rows_there : (r : D) → devs r ≡ devs rack → AreThere (devs r) (rows_of b.rec)
  rows_there r same = subst (λ (ds : Devices). AreThere ds (rows_of b.rec)) (sym same) (subst (λ (ds : Devices). AreThere (devs rack) ds) rows_now inv.is_on.own.there)

  -- the rack is that of a pool on the same devices
  pub own_moved : (new : PoolState) (r : D) → devs r ≡ devs rack → in_use new (devs r) ≡ rows_of b.rec → IsOwn new (devs r)
  own_moved new r same rows = record {
    there = subst (λ (ds : Devices). AreThere (devs r) ds) (sym rows) (rows_there r same);
    alone = λ p n has. subst (λ (ds : Devices). names (paths ds) p ≡ true) (rows_now ∙ sym rows) (inv.is_on.own.alone p n (subst (λ (ds : Devices). Has ds p n) same has));
  }

  module _ (call : Call) (takes_none : devices_taken call ≡ []) (r1 : D) (same : devs r1 ≡ devs rack) (P : Option PoolState → Type 0)
      (each : (found : Option PoolState) → P found → Survives (pool_with b (Some call) m) call (devs r1) found)
      (during : Keeps moment state_at (Survived b.rec.serial (rows_of b.rec) P) rack r1) where
    flying : (k : ℕ) → moment rack ≤ k → k ≤ moment r1 → Kept (pool_with b (Some call) m) (devs r1) (state_at r1 k)
    flying k from until = survived_kept b m call (devs r1) (state_at r1 k) P takes_none each (during.all k from until)

    pub crash_of : Always moment state_at (Kept (in_flight pool call) (devs r1)) rack r1
    crash_of k from until = subst (λ (q : PoolState). Kept q (devs r1) (state_at r1 k)) (sym (down_same b m call)) (flying k from until)

    module _ (flies : IsPoolCall b list call) (rose : Rose (faults rack) (faults r1)) (own other : PoolInfo) (own_is : own ≡ record shown { mode = shows.Down }) (other_is : other ≡ record shown { mode = shows.Down }) where
      info_is : record shown { mode = shows.Down } ≡ pool_info (pool_with b (Some call) m)
      info_is = ap (λ (i : PoolInfo). record i { mode = shows.Down }) inv.is_on.info ∙ sym (info_down b m call)

      rows_down : in_use (pool_with b (Some call) m) (devs r1) ≡ rows_of b.rec
      rows_down = rows_are b m (Some call) (devs r1) takes_none

      own_down : IsOwn (pool_with b (Some call) m) (devs r1)
      own_down = own_moved (pool_with b (Some call) m) r1 same rows_down

      least : (n before after : ℕ) → n ≤ before → min (before + 1) (2 ^ 64 - 1) ≤ after → min (n + 1) (2 ^ 64 - 1) ≤ after
      least n before after le more = omega (arith, le, more)

      -- a pool that a fault took down
      pub pool_down : IsPool devs moment state_at faults b (Some call) list own (Some other) r1 seen (counted true count)
      pool_down = record {
        serial = inv.serial;
        filesystems = inv.filesystems;
        mappings = inv.mappings;
        flies = flies;
        is_on = record {
          on = ap paths rows_down ∙ rows_path;
          once = inv.is_on.once;
          own = own_down;
          info = own_is ∙ info_is;
          spare_info = other_is ∙ info_is;
        };
        stands = flying (moment r1) during.later (self_le (moment r1));
        count_is = least count (faults rack) (faults r1) inv.count_is rose;
      }

      pub runs_down : outcome (engine_of pool (devs rack)) call FaultWrite ≡ Some (refused DeviceFault, record (engine_of pool (devs rack)) { pools = in_flight pool call ∷ [] })
          → Runs devs moment state_at faults never_low call (view_of moment state_at b None (is_some spare) rack seen count) failed (view_of moment state_at b (Some call) true r1 seen (counted true count))
      runs_down is = record {
        licensed = ap (λ (o : Outcome). is_some o) is;
        replied = sym (ap (λ (o : Outcome). (unwrap_or o (refused OutOfMemory, engine_of pool (devs rack))).0) is);
        becomes = ap (λ (o : Outcome). (unwrap_or o (refused OutOfMemory, engine_of pool (devs rack))).1.pools) is ∙ ap (λ (q : PoolState). q ∷ []) (down_same b m call);
        twin = refl;
        low = refl;
        cause = λ e. rose;
        counts = refl;
        same_devs = same;
        crash = λ up. crash_of;
        idle = λ down. absurd (cc);
        kept = flying (moment r1) during.later (self_le (moment r1));
        own = own_down;
        spare = λ e. absurd (cc);
      }
