-- What the devices of a pool that is being made keep.
use Rattle.std.proofs.Common.{◌≡◌, ◌⊎◌, inl, inr, ℕ, ◌≤◌, ◌^◌, Bool, true, false, is_some, not, unwrap_or, option_map, List, [], ◌∷◌, map, filter, Option, Some, None, refl, sym, ◌∙◌, ap, subst}
use Rattle.std.specs.List.{slice_get}
use Rattle.st_units.specs.declared.cause.Cause.TheVariants.{OutOfMemory}
use Rattle.st_poolrec.specs.declared.record.PoolRec.{PoolRec}
use Rattle.st_model.specs.declared.call.Call.TheVariants.{CreatePool}
use Rattle.st_model.specs.declared.info.PoolInfo.{PoolInfo}
use Rattle.st_model.specs.declared.state.PoolState.{PoolState}
use Rattle.st_model.specs.Answer.{refused}
use Rattle.st_model.specs.declared.entry.Env.TheVariants.{Plain}
use Rattle.st_model.specs.Local.{Outcome}
use Rattle.st_model.specs.Look.{Text, row_of}
use Rattle.st_model.specs.Shown.{pool_info}
use Rattle.st_model.specs.Step.{outcome}
use Rattle.st_model.specs.steps.CreatePool.{broken_pool, new_pool}
use Rattle.st_rack.specs.Device.{Path, State, Image}
use Rattle.st_rack.specs.Calls.{Devices, sectors_of}
use Rattle.st_image.specs.Kept.{Kept, as_pair, in_use}
use Rattle.st_image.specs.Left.{LeftOf}
use Rattle.st_image.specs.Stands.{StandsFor, state_of, cold_cache}
use Rattle.st_image.specs.Survivors.{Survives, recorded, the_pool}
use Rattle.st_books.specs.Ready.{rows_of}
use Rattle.st_books.specs.Survived.{Survived}
use Rattle.st_making.specs.First.{first_books, first_flex, first_record}
use Rattle.st_making.specs.Made.{IsMade, made}
use Rattle.st_making.proofs.Made.{first_blocks, no_cache}
use Rattle.st_pool.specs.Makes.{MayTake, engine_before}
use Rattle.st_pool.specs.View.{pool_with}
use Rattle.st_pool.specs.inner.Makings.{broken_books, broken_info, new_rows}
use Rattle.st_pool.proofs.Creating.{made_plain, may_make}
use Rattle.st_pool.proofs.NewRows.{are_rows}

-- what the first books stand for
pub made_with : (serial : ℕ) (name : Text) (devs : Devices) (list : List Path) (m : Image) (s : State) → MayTake serial list devs s
    → pool_with (first_books serial name (new_rows devs list)) None m ≡ new_pool serial name (new_rows devs list)
made_with serial name devs list m s may =
    let rows = new_rows devs list in
    let none = no_cache rows (are_rows devs serial list s may).data_rows in
    (λ i. record (pool_with (first_books serial name rows) None m) { allocated = first_blocks i; cache = cold_cache (none i) })

pub broken_with : (serial : ℕ) (name : Text) (list : List Path) (m : Image) → pool_with (broken_books serial name) (Some (CreatePool name list)) m ≡ broken_pool serial name list
broken_with serial name list m = refl

pub broken_shown : (serial : ℕ) (name : Text) (list : List Path) → pool_info (broken_pool serial name list) ≡ broken_info serial name
unfolding pool_info
broken_shown serial name list = refl

-- the devices of a pool whose making is in flight
pub broken_uses : (serial : ℕ) (name : Text) (list : List Path) (devs rack : Devices) → rack ≡ devs → in_use (broken_pool serial name list) rack ≡ rows_of (first_record serial name (new_rows devs list))
broken_uses serial name list devs rack same = ap (λ (ds : Devices). taken ds list) same ∙ each list
  where
    taken : Devices → List Path → Devices
    taken ds ps = map (λ (path : Path). (path, unwrap_or (sectors_of ds path) 0)) (filter (λ (path : Path). not (is_some (row_of path []))) ps)

    each : (ps : List Path) → taken devs ps ≡ map as_pair (new_rows devs ps)
    each [] = refl
    each (d ∷ ds) = ap (λ (qs : Devices). (d, unwrap_or (sectors_of devs d) 0) ∷ qs) (each ds)

module _ (serial : ℕ) (name : Text) (list : List Path) (devs : Devices) (start : State) (may : MayTake serial list devs start) (until : serial ≤ 2 ^ 48) where
  abbrev rec : PoolRec
  rec = first_record serial name (new_rows devs list)

  survives : (rack : Devices) → rack ≡ devs → (found : Option PoolState) → IsMade (made rec) found → Survives (broken_pool serial name list) (CreatePool name list) rack found
  survives rack same found (inl none) = inl none
  survives rack same found (inr is) =
      inr (is ∙ sym (
      ap (λ (ds : Devices). option_map recorded (the_pool (unwrap_or (outcome (engine_before serial ds) (CreatePool name list) Plain) (refused OutOfMemory, engine_before serial ds)).1.pools)) same
      ∙ ap (λ (o : Outcome). option_map recorded (the_pool (unwrap_or o (refused OutOfMemory, engine_before serial devs)).1.pools)) (made_plain serial name list devs (may_make serial list devs start may) until)))

  -- a crash leaves no pool or the new one: so it is kept, with the call in flight
  pub making_kept : (rack : Devices) → rack ≡ devs → (s : State) → Survived serial (rows_of rec) (IsMade (made rec)) s → Kept (broken_pool serial name list) rack s
  making_kept rack same s survived = record {
    all = λ c leaves. (
        let one = survived c (subst (λ (ds : Devices). LeftOf serial ds s c) rows leaves) in
        record {
          found = one.0;
          stands = subst (λ (ds : Devices). StandsFor serial ds c one.0) (sym rows) one.1;
          kept = survives rack same one.0 one.2;
          borne = λ e. absurd (cc);
          others = λ q k d ne at. one.3 q k d ne (subst (λ (ds : Devices). slice_get ds k ≡ Some d) rows at);
        });
  }
    where
      rows : in_use (broken_pool serial name list) rack ≡ rows_of rec
      rows = broken_uses serial name list devs rack same
