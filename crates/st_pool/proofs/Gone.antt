-- A pool that is gone.
use Rattle.std.proofs.Common.{◌≡◌, ℕ, ◌+◌, ◌≤◌, true, is_some, unwrap_or, List, [], ◌∷◌, Option, Some, None, refl, sym, ◌∙◌, ap, subst, arith}
use Rattle.std.specs.List.{slice_get}
use Rattle.st_units.specs.declared.cause.Cause.TheVariants.{DeviceFault, OutOfMemory}
use Rattle.st_poolrec.specs.declared.record.PoolRec.{PoolRec}
use Rattle.st_poolrec.specs.Record.{record_text}
use Rattle.st_model.specs.declared.call.Call.TheVariants.{DestroyPool}
use Rattle.st_model.specs.declared.entry.Env.TheVariants.{FaultWrite}
use Rattle.st_model.specs.declared.info.PoolInfo.{PoolInfo}
use Rattle.st_model.specs.declared.state.PoolState.{PoolState}
use Rattle.st_model.specs.Answer.{refused}
use Rattle.st_model.specs.Checks.{down}
use Rattle.st_model.specs.Local.{Outcome}
use Rattle.st_model.specs.Step.{outcome}
use Rattle.st_rack.specs.Device.{Path, State, Image, held}
use Rattle.st_rack.specs.Calls.{Devices}
use Rattle.st_rack.specs.Moments.{Keeps}
use Rattle.st_deltalog.specs.Bearing.{IsSettled}
use Rattle.st_commit.specs.Ready.{BearsRecord, IsOf}
use Rattle.st_image.specs.Looks.{pool_area}
use Rattle.st_image.specs.Committed.{HasOwnHeader}
use Rattle.st_image.specs.Survivors.{Survives}
use Rattle.st_image.proofs.Committing.{path_at}
use Rattle.st_books.specs.declared.books.Books.{Books}
use Rattle.st_books.specs.Survived.{Survived, IsEither, unless_gone}
use Rattle.st_books.specs.Ready.{AreReady, rows_of, stood, stood_next}
use Rattle.st_pool.specs.View.{engine_of, now, pool_with, view_of}
use Rattle.st_pool.specs.Known.{IsPool}
use Rattle.st_pool.specs.Ends.{IsFreed, IsGone}
use Rattle.st_pool.specs.inner.Plans.{record_with, refusal}
use Rattle.st_pool.proofs.Answering.{end_answer}
use Rattle.st_pool.proofs.Committing.{crash_of, own_moved, rows_path}
use Rattle.st_pool.proofs.Freed.{freed}
use Rattle.st_pool.proofs.Standing.{rows_are}
use Rattle.st_pool.proofs.Stepping.{changed_own, destroy_fails, destroy_plain}
use Rattle.st_pool.proofs.Surviving.{survives_end}

most : (n before after : ℕ) → n ≤ before → before ≤ after → n ≤ after
most n before after le more = omega (arith, le, more)

module _ {D : Type 0} (devs : D → Devices) (moment : D → ℕ) (state_at : D → ℕ → State) (faults : D → ℕ)
    (b : Books) (list : List Path) (shown : PoolInfo) (spare : Option PoolInfo) (rack seen : D) (count : ℕ)
    (inv : IsPool devs moment state_at faults b None list shown spare rack seen count)
    (free : refusal b None ≡ None) where
  abbrev at : D → State
  at r = now moment state_at r

  abbrev m : Image
  m = held (at seen)

  abbrev pool : PoolState
  pool = pool_with b None m

  abbrev rec : PoolRec
  rec = record_with b.rec.name true b.rec

  abbrev pub Either : Option PoolState → Type 0
  Either = IsEither (stood b (held (at rack))) (unless_gone rec (stood_next b rec (held (at rack))))

  -- where a device fails
  pub end_fails : outcome (engine_of pool (devs rack)) (DestroyPool b.rec.name) FaultWrite
      ≡ Some (refused DeviceFault, record (engine_of pool (devs rack)) { pools = down (DestroyPool b.rec.name) pool ∷ [] })
  end_fails =
      destroy_fails pool (devs rack) (end_answer b m (devs rack) None inv.filesystems ∙ free)
      ∙ ap (λ (ps : List PoolState). Some (refused DeviceFault, record (engine_of pool (devs rack)) { pools = ps })) (changed_own pool (devs rack) (down (DestroyPool b.rec.name)) refl)

  pub end_survives : (r1 : D) (found : Option PoolState) → Either found → Survives (pool_with b (Some (DestroyPool b.rec.name)) m) (DestroyPool b.rec.name) (devs r1) found
  end_survives r1 = survives_end b m (devs r1) (held (at rack)) inv.stands.same free inv.filesystems

  module _ (r1 : D) (same : devs r1 ≡ devs rack) (later : faults rack ≤ faults r1) (during : Keeps moment state_at (Survived b.rec.serial (rows_of b.rec) Either) rack r1) (b1 : Books) (ready : AreReady b1 (at r1))
      (rec_is : b1.rec ≡ rec) (generation_is : b1.generation ≡ b.generation + 1)
      (before : (k : ℕ) (d : Path × ℕ) → slice_get (rows_of b.rec) k ≡ Some d → BearsRecord pool_area b.generation (record_text b.rec) (at r1 d.0))
      (settled : (d : Path) → IsOf list d → IsSettled (at r1 d)) where
    settled_at : (k : ℕ) (d : Path × ℕ) → slice_get (rows_of b.rec) k ≡ Some d → IsSettled (at r1 d.0)
    settled_at k d is = settled d.0 (record {
      index = k;
      is = subst (λ (l : List Path). slice_get l k ≡ Some d.0) (rows_path devs moment state_at faults b list shown spare rack seen count inv) (path_at (rows_of b.rec) k d is);
    })

    freed_at : (k : ℕ) (d : Path × ℕ) → slice_get (rows_of b.rec) k ≡ Some d → IsFreed b.rec.serial d.1 (at r1 d.0)
    freed_at k d is =
        let there : slice_get (rows_of b1.rec) k ≡ Some d = subst (λ (r : PoolRec). slice_get (rows_of r) k ≡ Some d) (sym rec_is) is in
        freed b.rec.serial d.1 b.generation b.rec b1.rec (at r1 d.0)
        (subst (λ (r : PoolRec). HasOwnHeader r.serial d.1 (at r1 d.0)) rec_is (ready.records.headers k d there))
        (before k d is)
        (subst (λ (n : ℕ). BearsRecord pool_area n (record_text b1.rec) (at r1 d.0)) generation_is (ready.records.borne k d there))
        inv.stands.ready.records.is ready.records.is refl (ap (λ (r : PoolRec). r.serial) rec_is) (ap (λ (r : PoolRec). r.gone) rec_is) (settled_at k d is)

    pub is_gone : IsGone devs moment state_at faults (view_of moment state_at b None (is_some spare) rack seen count) r1
    is_gone = record {
      ends = ap (λ (o : Outcome). unwrap_or o (refused OutOfMemory, engine_of pool (devs rack))) (destroy_plain pool (devs rack) None (end_answer b m (devs rack) None inv.filesystems ∙ free));
      same_devs = same;
      crash = crash_of devs moment state_at faults b list shown spare rack seen count inv (DestroyPool b.rec.name) refl r1 same Either (end_survives r1) during;
      own = own_moved devs moment state_at faults b list shown spare rack seen count inv pool r1 same (rows_are b m None (devs r1) refl);
      freed = λ k d is. freed_at k d (subst (λ (ds : Devices). slice_get ds k ≡ Some d) (rows_are b m None (devs r1) refl) is);
      counted = most count (faults rack) (faults r1) inv.count_is later;
    }
