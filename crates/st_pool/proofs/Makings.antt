-- A pool that was made, or is down since a device failed while it was made.
use Rattle.std.proofs.Common.{◌≡◌, ℕ, ◌+◌, ◌-◌, ◌≤◌, ◌^◌, min, true, false, is_some, unwrap_or, List, [], ◌∷◌, Option, Some, None, refl, sym, ◌∙◌, ap, subst, arith}
use Rattle.st_units.specs.Causes.{Rose}
use Rattle.st_units.specs.declared.cause.Cause.TheVariants.{DeviceFault, OutOfMemory}
use Rattle.st_poolrec.specs.declared.record.PoolRec.{PoolRec}
use Rattle.st_model.specs.declared.call.Call.TheVariants.{CreatePool}
use Rattle.st_model.specs.declared.entry.Env.TheVariants.{FaultWrite, Plain}
use Rattle.st_model.specs.declared.info.PoolInfo.{PoolInfo}
use Rattle.st_model.specs.declared.state.PoolState.{PoolState}
use Rattle.st_model.specs.Answer.{refused}
use Rattle.st_model.specs.Local.{Outcome}
use Rattle.st_model.specs.Look.{Text}
use Rattle.st_model.specs.Shown.{pool_info}
use Rattle.st_model.specs.steps.CreatePool.{broken_pool, new_pool}
use Rattle.st_rack.specs.Device.{Path, State, Image, held}
use Rattle.st_rack.specs.Calls.{Devices, Has, names}
use Rattle.st_rack.specs.Moments.{Keeps}
use Rattle.st_deltalog.specs.Bearing.{IsSettled}
use Rattle.st_commit.specs.Ready.{IsOf}
use Rattle.st_image.specs.Bears.{paths}
use Rattle.st_image.specs.Kept.{Kept, as_pair, in_use}
use Rattle.st_image.specs.Rack.{IsSerial}
use Rattle.st_books.specs.declared.books.Books.{Books}
use Rattle.st_books.specs.Ready.{AreReady, AreThere, rows_of}
use Rattle.st_books.specs.Survived.{Survived}
use Rattle.st_making.specs.First.{first_books, first_record}
use Rattle.st_making.specs.Made.{IsMade, made}
use Rattle.st_pool.specs.Answered.{counted}
use Rattle.st_pool.specs.Known.{IsPool, IsUp}
use Rattle.st_pool.specs.Makes.{Makes, MayTake, engine_before}
use Rattle.st_pool.specs.View.{IsOwn, engine_of, now, pool_with, view_of}
use Rattle.st_pool.specs.inner.Makings.{broken_books, broken_info, new_rows}
use Rattle.st_pool.proofs.Broken.{broken_shown, broken_uses, broken_with, made_with, making_kept}
use Rattle.st_pool.proofs.Creating.{created, made_broken, made_plain, may_make}
use Rattle.st_pool.proofs.NewRows.{alone_new, paths_new, there_new}
use Rattle.st_pool.proofs.Standing.{rows_are, up_kept}

self_le : (n : ℕ) → n ≤ n
self_le n = omega arith

nothing_le : (n : ℕ) → 0 ≤ n
nothing_le n = omega arith

-- a count that rose is 1 at least
one_le : (before after : ℕ) → min (before + 1) (2 ^ 64 - 1) ≤ after → 1 ≤ after
one_le before after rose = omega (arith, rose)

module _ {D : Type 0} (devs : D → Devices) (moment : D → ℕ) (state_at : D → ℕ → State) (faults : D → ℕ)
    (serial : ℕ) (name : Text) (list : List Path) (rack : D) (may : MayTake serial list (devs rack) (now moment state_at rack)) (from : 1 ≤ serial) (until : serial ≤ 2 ^ 48)
    (r1 : D) (same : devs r1 ≡ devs rack) where
  abbrev at : D → State
  at r = now moment state_at r

  abbrev rec : PoolRec
  rec = first_record serial name (new_rows (devs rack) list)

  abbrev books : Books
  books = first_books serial name (new_rows (devs rack) list)

  abbrev pool : PoolState
  pool = new_pool serial name (new_rows (devs rack) list)

  abbrev During : Type 0
  During = Keeps moment state_at (Survived serial (rows_of rec) (IsMade (made rec))) rack r1

  -- the rack is that of a pool on these rows
  owns : (q : PoolState) → in_use q (devs r1) ≡ rows_of rec → IsOwn q (devs r1)
  owns q rows = record {
    there = subst (λ (ds : Devices). AreThere (devs r1) ds) (sym rows) (subst (λ (ds : Devices). AreThere ds (rows_of rec)) (sym same) (there_new (devs rack) serial list (at rack) may));
    alone = λ d n has. subst (λ (ds : Devices). names (paths ds) d ≡ true) (sym rows) (alone_new (devs rack) serial list (at rack) may d n (subst (λ (ds : Devices). Has ds d n) same has));
  }

  uses : (q : PoolState) → in_use q (devs r1) ≡ rows_of rec → paths (in_use q (devs r1)) ≡ list
  uses q rows = ap paths rows ∙ paths_new (devs rack) list

  flying : During → (k : ℕ) → moment rack ≤ k → k ≤ moment r1 → Kept (broken_pool serial name list) (devs r1) (state_at r1 k)
  flying during k low high = making_kept serial name list (devs rack) (at rack) may until (devs r1) same (state_at r1 k) (during.all k low high)

  -- it was made
  module _ (ready : AreReady books (at r1)) (settled : (d : Path) → IsOf list d → IsSettled (at r1 d)) (own other : PoolInfo) (own_is : own ≡ pool_info pool) (other_is : other ≡ pool_info pool) where
    is_up : IsUp books (at r1) (at r1)
    is_up = record { ready = ready; settled = λ d of. settled d (subst (λ (l : List Path). IsOf l d) (paths_new (devs rack) list) of); alive = refl; same = refl }

    up_rows : in_use (pool_with books None (held (at r1))) (devs r1) ≡ rows_of rec
    up_rows = rows_are books (held (at r1)) None (devs r1) refl

    stands_for : pool_with books None (held (at r1)) ≡ pool
    stands_for = made_with serial name (devs rack) list (held (at r1)) (at rack) may

    pub pool_made : IsPool devs moment state_at faults books None list own (Some other) r1 r1 0
    pool_made = record {
      serial = record { from = from; until = until };
      filesystems = refl;
      mappings = refl;
      flies = tt;
      is_on = record {
        on = uses (pool_with books None (held (at r1))) up_rows;
        once = may.own;
        own = owns (pool_with books None (held (at r1))) up_rows;
        info = own_is ∙ ap pool_info (sym stands_for);
        spare_info = other_is ∙ ap pool_info (sym stands_for);
      };
      stands = is_up;
      count_is = nothing_le (faults r1);
    }

    pub makes_ready : During → Makes devs moment state_at faults serial name list Plain (created serial list) rack (view_of moment state_at books None true r1 r1 0)
    makes_ready during = record {
      licensed = ap (λ (o : Outcome). is_some o) (made_plain serial name list (devs rack) (may_make serial list (devs rack) (at rack) may) until);
      answers = ap (λ (o : Outcome). unwrap_or o (refused OutOfMemory, engine_before serial (devs rack))) (made_plain serial name list (devs rack) (may_make serial list (devs rack) (at rack) may) until)
          ∙ ap (λ (q : PoolState). (created serial list, engine_of q (devs rack))) (sym stands_for);
      cause = λ e. absurd (cc);
      counts = refl;
      most = nothing_le (faults r1);
      same_devs = same;
      crash = flying during;
      kept = up_kept books (devs r1) (at r1) (at r1) is_up;
      own = owns (pool_with books None (held (at r1))) up_rows;
      spare = refl;
    }

  -- a device failed
  module _ (during : During) (rose : Rose (faults rack) (faults r1)) (own other : PoolInfo) (own_is : own ≡ broken_info serial name) (other_is : other ≡ broken_info serial name) where
    down_rows : in_use (broken_pool serial name list) (devs r1) ≡ rows_of rec
    down_rows = broken_uses serial name list (devs rack) (devs r1) same

    kept_down : Kept (broken_pool serial name list) (devs r1) (at r1)
    kept_down = flying during (moment r1) during.later (self_le (moment r1))

    pub pool_broken : IsPool devs moment state_at faults (broken_books serial name) (Some (CreatePool name list)) list own (Some other) r1 r1 1
    pool_broken = record {
      serial = record { from = from; until = until };
      filesystems = refl;
      mappings = refl;
      flies = (refl, refl, refl, refl);
      is_on = record {
        on = uses (broken_pool serial name list) down_rows;
        once = may.own;
        own = owns (broken_pool serial name list) down_rows;
        info = own_is ∙ sym (broken_shown serial name list);
        spare_info = other_is ∙ sym (broken_shown serial name list);
      };
      stands = kept_down;
      count_is = one_le (faults rack) (faults r1) rose;
    }

    pub makes_broken : Makes devs moment state_at faults serial name list FaultWrite (refused DeviceFault) rack (view_of moment state_at (broken_books serial name) (Some (CreatePool name list)) true r1 r1 1)
    makes_broken = record {
      licensed = ap (λ (o : Outcome). is_some o) (made_broken serial name list (devs rack) (may_make serial list (devs rack) (at rack) may) until);
      answers = ap (λ (o : Outcome). unwrap_or o (refused OutOfMemory, engine_before serial (devs rack))) (made_broken serial name list (devs rack) (may_make serial list (devs rack) (at rack) may) until);
      cause = λ e. rose;
      counts = refl;
      most = one_le (faults rack) (faults r1) rose;
      same_devs = same;
      crash = flying during;
      kept = kept_down;
      own = owns (broken_pool serial name list) down_rows;
      spare = refl;
    }
