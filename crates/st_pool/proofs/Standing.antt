-- What a started pool without filesystems stands for, and what its devices keep.
use Rattle.std.proofs.Common.{◌≡◌, ℕ, List, [], ◌∷◌, ◌++◌, map, filter, not, is_some, unwrap_or, option_map, Option, Some, None, refl, sym, ◌∙◌, ap, subst, append-nil}
use Rattle.std.specs.List.{slice_get}
use Rattle.st_units.specs.declared.rows.DevRow.{DevRow}
use Rattle.st_model.specs.declared.call.Call.{Call}
use Rattle.st_model.specs.declared.state.CacheState.{CacheState}
use Rattle.st_model.specs.declared.state.FsState.{FsState}
use Rattle.st_model.specs.declared.state.PoolState.{PoolState}
use Rattle.st_model.specs.declared.state.PoolMode.TheVariants.{Up}
use Rattle.st_model.specs.Checks.{cold, cooled}
use Rattle.st_model.specs.Look.{flight_of, devices_taken, row_of}
use Rattle.st_model.specs.Merged.{is_mapped, merged}
use Rattle.st_model.specs.Sums.{cache_rows}
use Rattle.st_rack.specs.Device.{State, Image, held}
use Rattle.st_rack.specs.Calls.{Devices, sectors_of}
use Rattle.st_image.specs.Left.{LeftOf}
use Rattle.st_image.specs.Stands.{cold_cache, state_of, StandsFor}
use Rattle.st_image.specs.Survivors.{recorded, in_flight, Survives}
use Rattle.st_image.specs.Kept.{Kept, in_use, taken_by}
use Rattle.st_image.specs.Calm.{Calm}
use Rattle.st_image.proofs.Calming.{calm_stands, calm_kept}
use Rattle.st_image.proofs.Committing.{committed_shows}
use Rattle.st_books.specs.declared.books.Books.{Books}
use Rattle.st_books.specs.Survived.{Survived}
use Rattle.st_books.specs.Ready.{rows_of, stood}
use Rattle.st_pool.specs.View.{mode_with, pool_with}
use Rattle.st_pool.specs.Known.{IsUp}

-- a cold cache stays as it is
abbrev pub with_cells : List FsState → Option CacheState → Option CacheState
with_cells filesystems o = option_map (λ (cache : CacheState). record cache { cells = filter (is_mapped filesystems) cache.cells }) o

cold_once : (rows : List DevRow) → cold (cold_cache rows) ≡ cold_cache rows
cold_once [] = refl
cold_once (row ∷ rows) = refl

cold_merged : (filesystems : List FsState) (rows : List DevRow) → cold (with_cells filesystems (cold_cache rows)) ≡ with_cells filesystems (cold_cache rows)
cold_merged filesystems [] = refl
cold_merged filesystems (row ∷ rows) = refl

module _ (b : Books) (m : Image) where
  -- what devices keep of the pool
  pub recorded_is : (flight : Option Call) → recorded (pool_with b flight m) ≡ stood b m
  recorded_is flight = ap (λ (o : Option CacheState). record (stood b m) { cache = o }) (cold_merged (stood b m).filesystems (cache_rows b.rec.devs))

  pub down_same : (call : Call) → in_flight (pool_with b None m) call ≡ pool_with b (Some call) m
  down_same call = ap (λ (o : Option CacheState). record (pool_with b (Some call) m) { cache = o }) (cold_once (cache_rows b.rec.devs))

  pub up_same : (call : Call) → cooled Up (pool_with b (Some call) m) ≡ pool_with b None m
  up_same call = ap (λ (o : Option CacheState). record (pool_with b None m) { cache = o }) (cold_once (cache_rows b.rec.devs))

  -- its devices are its rows, where no call in flight takes more
  pub rows_are : (flight : Option Call) (devs : Devices) → taken_by (flight_of (mode_with flight)) ≡ [] → in_use (pool_with b flight m) devs ≡ rows_of b.rec
  rows_are None devs none = append-nil (rows_of b.rec)
  rows_are (Some call) devs none = taken (devices_taken call) none
    where
      taken : (more : List (List ℕ)) → more ≡ [] → rows_of b.rec ++ map (λ (path : List ℕ). (path, unwrap_or (sectors_of devs path) 0)) (filter (λ (path : List ℕ). not (is_some (row_of path b.rec.devs))) more) ≡ rows_of b.rec
      taken [] e = append-nil (rows_of b.rec)
      taken (path ∷ more) e = absurd (cc)

pub calm_of : (b : Books) (s seen : State) → IsUp b s seen → Calm b.rec.serial (rows_of b.rec) b.generation b.rec b.flex s
calm_of b s seen up = record {
  shows = λ c leaves. committed_shows b.rec.serial (rows_of b.rec) b.generation b.rec b.flex s c up.ready.records leaves;
  alive = up.alive;
  places = up.ready.places;
}

-- a pool that is up is kept
pub up_kept : (b : Books) (devs : Devices) (s seen : State) → IsUp b s seen → Kept (pool_with b None (held seen)) devs s
up_kept b devs s seen up =
    calm_kept (pool_with b None (held seen)) devs b.rec b.flex s refl refl
    (ap (λ (o : Option CacheState). record (state_of b.generation b.rec b.flex (held seen)) { cache = o }) (cold_once (cache_rows b.rec.devs)) ∙ sym up.same)
    (calm_of b s seen up)

-- what a crash leaves of it
pub up_survived : (b : Books) (s seen : State) (P : Option PoolState → Type 0) → IsUp b s seen → P (Some (stood b (held seen))) → Survived b.rec.serial (rows_of b.rec) P s
up_survived b s seen P up is c leaves =
    let calm = calm_of b s seen up in (
      Some (stood b (held s)),
      calm_stands b.rec.serial (rows_of b.rec) b.generation b.rec b.flex s c calm leaves,
      subst (λ (q : PoolState). P (Some (merged q))) (sym up.same) is,
      (calm.shows c leaves).others,
    )

-- what survives a call on the pool is what its devices keep while the call is in flight
pub survived_kept : (b : Books) (m : Image) (call : Call) (devs : Devices) (s : State) (P : Option PoolState → Type 0) → devices_taken call ≡ []
    → ((found : Option PoolState) → P found → Survives (pool_with b (Some call) m) call devs found)
    → Survived b.rec.serial (rows_of b.rec) P s → Kept (pool_with b (Some call) m) devs s
survived_kept b m call devs s P none each survived = record {
  all = λ c leaves. (
      let one = survived c (subst (λ (ds : Devices). LeftOf b.rec.serial ds s c) rows leaves) in
      record {
        found = one.0;
        stands = subst (λ (ds : Devices). StandsFor b.rec.serial ds c one.0) (sym rows) one.1;
        kept = each one.0 one.2;
        borne = λ e. absurd (cc);
        others = λ q k d ne at. one.3 q k d ne (subst (λ (ds : Devices). slice_get ds k ≡ Some d) rows at);
      });
}
  where
    rows : in_use (pool_with b (Some call) m) devs ≡ rows_of b.rec
    rows = rows_are b m (Some call) devs none
