-- A rename that was done.
use Rattle.std.proofs.Common.{◌≡◌, ℕ, ◌+◌, ◌≤◌, true, false, is_some, unwrap_or, List, [], ◌∷◌, Option, Some, None, refl, sym, ◌∙◌, ap, subst, arith}
use Rattle.st_units.specs.declared.cause.Cause.TheVariants.{DeviceFault, OutOfMemory}
use Rattle.st_poolrec.specs.declared.record.PoolRec.{PoolRec}
use Rattle.st_flexlog.specs.declared.state.FlexState.{FlexState}
use Rattle.st_model.specs.declared.call.Call.TheVariants.{RenamePool}
use Rattle.st_model.specs.declared.entry.Env.TheVariants.{Plain, FaultWrite}
use Rattle.st_model.specs.declared.info.PoolInfo.{PoolInfo}
use Rattle.st_model.specs.declared.reply.Given.TheVariants.{Changed}
use Rattle.st_model.specs.declared.reply.Identity.TheVariants.{Pool}
use Rattle.st_model.specs.declared.state.PoolMode.TheVariants.{Up}
use Rattle.st_model.specs.declared.state.PoolState.{PoolState}
use Rattle.st_model.specs.Answer.{accepted, refused}
use Rattle.st_model.specs.Checks.{down}
use Rattle.st_model.specs.Local.{Outcome}
use Rattle.st_model.specs.Look.{Text}
use Rattle.st_model.specs.Shown.{pool_info}
use Rattle.st_model.specs.Step.{outcome}
use Rattle.st_model.specs.steps.RenamePool.{renamed}
use Rattle.st_rack.specs.Device.{Path, State, Image, held}
use Rattle.st_rack.specs.Calls.{Devices}
use Rattle.st_rack.specs.Moments.{Keeps}
use Rattle.st_deltalog.specs.Bearing.{IsSettled}
use Rattle.st_commit.specs.Ready.{IsOf}
use Rattle.st_image.specs.Bears.{paths}
use Rattle.st_image.specs.Kept.{in_use}
use Rattle.st_image.specs.Rack.{IsSerial}
use Rattle.st_image.specs.Stands.{state_of}
use Rattle.st_image.specs.Survivors.{Survives}
use Rattle.st_books.specs.declared.books.Books.{Books}
use Rattle.st_books.specs.Spelled.{same_flex}
use Rattle.st_books.specs.Survived.{Survived, IsEither, unless_gone}
use Rattle.st_books.specs.Ready.{AreReady, rows_of, stood, stood_next}
use Rattle.st_pool.specs.Answered.{answered}
use Rattle.st_pool.specs.View.{IsOwn, engine_of, now, pool_with, view_of}
use Rattle.st_pool.specs.Known.{IsPool, IsUp}
use Rattle.st_pool.specs.Runs.{Runs, never_low}
use Rattle.st_pool.specs.inner.Plans.{record_with, rename_refusal}
use Rattle.st_pool.proofs.Answering.{rename_answer}
use Rattle.st_pool.proofs.Committing.{crash_of, own_moved, rows_path}
use Rattle.st_pool.proofs.Standing.{rows_are, up_kept}
use Rattle.st_pool.proofs.Stepping.{changed_own, rename_fails, rename_plain}
use Rattle.st_pool.proofs.Surviving.{survives_rename}

most : (n before after : ℕ) → n ≤ before → before ≤ after → n ≤ after
most n before after le more = omega (arith, le, more)

info_renamed : (new : Text) (p : PoolState) → pool_info (renamed new p) ≡ record (pool_info p) { name = new }
unfolding pool_info
info_renamed new p = refl

module _ {D : Type 0} (devs : D → Devices) (moment : D → ℕ) (state_at : D → ℕ → State) (faults : D → ℕ)
    (b : Books) (list : List Path) (shown : PoolInfo) (spare : Option PoolInfo) (rack seen : D) (count : ℕ)
    (inv : IsPool devs moment state_at faults b None list shown spare rack seen count)
    (new : Text) (free : rename_refusal b None new ≡ None) where
  abbrev at : D → State
  at r = now moment state_at r

  abbrev m : Image
  m = held (at seen)

  abbrev pool : PoolState
  pool = pool_with b None m

  abbrev rec : PoolRec
  rec = record_with new false b.rec

  abbrev pub Either : Option PoolState → Type 0
  Either = IsEither (stood b (held (at rack))) (unless_gone rec (stood_next b rec (held (at rack))))

  abbrev During : D → Type 0
  During r1 = Keeps moment state_at (Survived b.rec.serial (rows_of b.rec) Either) rack r1

  -- where a device fails
  pub fails : outcome (engine_of pool (devs rack)) (RenamePool b.rec.name new) FaultWrite
      ≡ Some (refused DeviceFault, record (engine_of pool (devs rack)) { pools = down (RenamePool b.rec.name new) pool ∷ [] })
  fails =
      rename_fails pool (devs rack) new (rename_answer b m (devs rack) None new refl ∙ free)
      ∙ ap (λ (ps : List PoolState). Some (refused DeviceFault, record (engine_of pool (devs rack)) { pools = ps })) (changed_own pool (devs rack) (down (RenamePool b.rec.name new)) refl)

  pub survives : (r1 : D) (found : Option PoolState) → Either found → Survives (pool_with b (Some (RenamePool b.rec.name new)) m) (RenamePool b.rec.name new) (devs r1) found
  survives r1 = survives_rename b m (devs r1) (held (at rack)) inv.stands.same new free

  module _ (r1 : D) (same : devs r1 ≡ devs rack) (during : During r1) (later : faults rack ≤ faults r1) (b1 : Books) (ready : AreReady b1 (at r1)) (settled : (d : Path) → IsOf list d → IsSettled (at r1 d))
      (rec_is : b1.rec ≡ rec) (flex_is : b1.flex ≡ same_flex b.flex)
      (state_is : state_of b1.generation b1.rec b1.flex (held (at r1)) ≡ state_of (b.generation + 1) rec (same_flex b.flex) (held (at rack)))
      (own other : PoolInfo) (own_is : own ≡ record shown { name = new }) (other_is : other ≡ record shown { name = new }) where
    abbrev after : PoolState
    after = pool_with b1 None (held (at r1))

    after_is : after ≡ renamed new pool
    after_is =
        ap (λ (q : PoolState). record q { mode = Up }) state_is
        ∙ ap (λ (q : PoolState). record q { mode = Up; name = new; commits = b.generation + 1 }) inv.stands.same

    info_is : record shown { name = new } ≡ pool_info after
    info_is = ap (λ (i : PoolInfo). record i { name = new }) inv.is_on.info ∙ sym (info_renamed new pool) ∙ ap pool_info (sym after_is)

    rows_same : rows_of b1.rec ≡ rows_of b.rec
    rows_same = ap (λ (r : PoolRec). rows_of r) rec_is

    rows_after : in_use after (devs r1) ≡ rows_of b.rec
    rows_after = rows_are b1 (held (at r1)) None (devs r1) refl ∙ rows_same

    own_after : IsOwn after (devs r1)
    own_after = own_moved devs moment state_at faults b list shown spare rack seen count inv after r1 same rows_after

    is_up : IsUp b1 (at r1) (at r1)
    is_up = record { ready = ready; settled = λ d of. settled d (subst (λ (l : List Path). IsOf l d) (ap paths rows_same ∙ rows_path devs moment state_at faults b list shown spare rack seen count inv) of); alive = ap (λ (r : PoolRec). r.gone) rec_is; same = refl }

    pub pool_renamed : IsPool devs moment state_at faults b1 None list own (Some other) r1 r1 count
    pool_renamed = record {
      serial = subst (λ (r : PoolRec). IsSerial r.serial) (sym rec_is) inv.serial;
      filesystems = ap (λ (st : FlexState). st.filesystems) flex_is ∙ inv.filesystems;
      mappings = ap (λ (st : FlexState). st.mappings) flex_is ∙ inv.mappings;
      flies = tt;
      is_on = record {
        on = ap paths rows_after ∙ rows_path devs moment state_at faults b list shown spare rack seen count inv;
        once = inv.is_on.once;
        own = own_after;
        info = own_is ∙ info_is;
        spare_info = other_is ∙ info_is;
      };
      stands = is_up;
      count_is = most count (faults rack) (faults r1) inv.count_is later;
    }

    done : outcome (engine_of pool (devs rack)) (RenamePool b.rec.name new) Plain
        ≡ Some (accepted (Changed true (Some (Pool b.rec.serial))), record (engine_of pool (devs rack)) { pools = renamed new pool ∷ [] })
    done =
        rename_plain pool (devs rack) new None (rename_answer b m (devs rack) None new refl ∙ free)
        ∙ ap (λ (ps : List PoolState). Some (accepted (Changed true (Some (Pool b.rec.serial))), record (engine_of pool (devs rack)) { pools = ps })) (changed_own pool (devs rack) (renamed new) refl)

    pub runs_renamed : Runs devs moment state_at faults never_low (RenamePool b.rec.name new) (view_of moment state_at b None (is_some spare) rack seen count)
        (answered Plain (accepted (Changed true (Some (Pool b.rec.serial))))) (view_of moment state_at b1 None true r1 r1 count)
    runs_renamed = record {
      licensed = ap (λ (o : Outcome). is_some o) done;
      replied = sym (ap (λ (o : Outcome). (unwrap_or o (refused OutOfMemory, engine_of pool (devs rack))).0) done);
      becomes = ap (λ (o : Outcome). (unwrap_or o (refused OutOfMemory, engine_of pool (devs rack))).1.pools) done ∙ ap (λ (q : PoolState). q ∷ []) (sym after_is);
      twin = refl;
      low = refl;
      cause = λ e. absurd (cc);
      counts = refl;
      same_devs = same;
      crash = λ up. crash_of devs moment state_at faults b list shown spare rack seen count inv (RenamePool b.rec.name new) refl r1 same Either (survives r1) during;
      idle = λ e. absurd (cc);
      kept = up_kept b1 (devs r1) (at r1) (at r1) is_up;
      own = own_after;
      spare = λ e. absurd (cc);
    }
