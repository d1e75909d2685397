-- the three calls that add devices: what each owes of its cache
use Rattle.std.proofs.Common.{◌≡◌, ◌≤◌, ◌==◌, not, List, [], ◌∷◌, ◌++◌, length, Bool, true, false, cond, Option, Some, None, is_none, is_some, refl, sym, ap, ◌∙◌, arith}
use Rattle.st_limits.specs.Sums.{cache_capacity}
use Rattle.st_units.specs.declared.cause.Cause.TheVariants.{CacheExists, NoCache}
use Rattle.st_units.specs.declared.rows.DevRow.{DevRow}
use Rattle.st_units.specs.declared.rows.Tier.TheVariants.{CacheTier, DataTier}
use Rattle.st_model.specs.declared.call.Call.TheVariants.{AddCacheDevs, AddDataDevs, InitCache}
use Rattle.st_model.specs.declared.state.CacheState.{CacheState}
use Rattle.st_model.specs.declared.state.PoolState.{PoolState}
use Rattle.st_model.specs.Answer.{refused_where}
use Rattle.st_model.specs.Checks.{cold, rows_on}
use Rattle.st_model.specs.Look.{Text}
use Rattle.st_model.specs.Sums.{cache_rows, is_data, sectors_in}
use Rattle.st_model.specs.ValidPool.{IsCacheOf}
use Rattle.st_model.specs.steps.AddCacheDevs.{larger_cache, more_cache}
use Rattle.st_model.specs.steps.AddDataDevs.{data_devs}
use Rattle.st_model.specs.steps.AddDevices.{with_devices}
use Rattle.st_model.specs.steps.InitCache.{empty_cache, new_cache}
use Rattle.st_model.proofs.AddFailed.{IsAddCall}
use Rattle.st_model.proofs.Answers0.{no_change_where}
use Rattle.st_model.proofs.NewPool.{no_cache}
use Rattle.st_model.proofs.ValidAdding.{IsAdding, more_blocks}

-- data devices leave the cache tier as it is
no_more_cache : (xs rack : List DevRow) (new : List Text) → cache_rows (xs ++ rows_on DataTier rack new) ≡ cache_rows xs
no_more_cache [] rack new = no_cache rack new
no_more_cache (x ∷ xs) rack new = ap (λ (t : List DevRow). cond (not (is_data x.tier)) (x ∷ t) t) (no_more_cache xs rack new)

data_kept : (rack : List DevRow) (new : List Text) (p : PoolState) (o : Option CacheState) → IsCacheOf p o → IsCacheOf (with_devices data_devs rack new p) o
data_kept rack new p None h = no_more_cache p.devices rack new ∙ h
data_kept rack new p (Some cache) h =
    let same = no_more_cache p.devices rack new in
    record {
      on = rw same h.on;
      capacity = h.capacity ∙ ap (λ (l : List DevRow). cache_capacity (sectors_in l)) (sym same);
      few = h.few;
      distinct = h.distinct;
      kept = h.kept;
      hits = h.hits;
      misses = h.misses;
    }

data_adding : IsAdding data_devs
data_adding = record { kept = λ rack new p h r some. data_kept rack new p p.cache h.cache; no_change = λ o. tt; cold = λ o h. refl }

-- with cache devices the cache tier is there
some_rows : (xs rack : List DevRow) (new : List Text) → (length new == 0) ≡ false → 1 ≤ length (cache_rows (xs ++ rows_on CacheTier rack new))
some_rows [] rack [] h = absurd cc
some_rows [] rack (path ∷ new) h = omega arith
some_rows (x ∷ xs) rack new h = here (not (is_data x.tier)) (some_rows xs rack new h)
  where
    here : (b : Bool) → 1 ≤ length (cache_rows (xs ++ rows_on CacheTier rack new)) → 1 ≤ length (cond b (x ∷ cache_rows (xs ++ rows_on CacheTier rack new)) (cache_rows (xs ++ rows_on CacheTier rack new)))
    here true k = omega arith
    here false k = k

init_kept : (rack : List DevRow) (new : List Text) (p : PoolState) → (length new == 0) ≡ false → IsCacheOf (with_devices new_cache rack new p) (Some (empty_cache (p.devices ++ rows_on CacheTier rack new)))
init_kept rack new p some = record {
  on = some_rows p.devices rack new some;
  capacity = refl;
  few = omega arith;
  distinct = tt;
  kept = tt;
  hits = omega arith;
  misses = omega arith;
}

init_cold : (o : Option CacheState) → refused_where (is_some o) CacheExists ≡ None → refused_where (is_some (cold o)) CacheExists ≡ None
init_cold None h = refl
init_cold (Some cache) h = absurd cc

init_adding : IsAdding new_cache
init_adding = record { kept = λ rack new p h r some. init_kept rack new p some; no_change = λ o. no_change_where (is_some o) CacheExists; cold = init_cold }

more_kept : (rack : List DevRow) (new : List Text) (p : PoolState) (o : Option CacheState) → IsCacheOf p o → refused_where (is_none o) NoCache ≡ None → (length new == 0) ≡ false
    → IsCacheOf (with_devices more_cache rack new p) (larger_cache (p.devices ++ rows_on CacheTier rack new) o)
more_kept rack new p None h r some = absurd cc
more_kept rack new p (Some cache) h r some =
    let few = h.few in
    let capacity = h.capacity in
    let more = more_blocks (λ (row : DevRow). not (is_data row.tier)) p.devices (rows_on CacheTier rack new) in
    record {
      on = some_rows p.devices rack new some;
      capacity = refl;
      few = omega (arith, few, capacity, more);
      distinct = h.distinct;
      kept = h.kept;
      hits = h.hits;
      misses = h.misses;
    }

more_cold : (o : Option CacheState) → refused_where (is_none o) NoCache ≡ None → refused_where (is_none (cold o)) NoCache ≡ None
more_cold None h = absurd cc
more_cold (Some cache) h = refl

more_adding : IsAdding more_cache
more_adding = record { kept = λ rack new p h r some. more_kept rack new p p.cache h.cache r some; no_change = λ o. no_change_where (is_none o) NoCache; cold = more_cold }

pub data-call : IsAddCall data_devs AddDataDevs
data-call = record {
  adding = data_adding;
  of_plain = λ s name devices. refl;
  of_outcome = λ s name devices env. refl;
  of_flight = λ s name devices. refl;
  of_wrote = λ s name devices. refl;
  takes = λ name devices. refl;
  gives = λ name devices. refl;
  on = λ n name devices e. e;
  before = λ name devices p h. h;
  alone = λ rows p name devices. refl;
}

pub init-call : IsAddCall new_cache InitCache
init-call = record {
  adding = init_adding;
  of_plain = λ s name devices. refl;
  of_outcome = λ s name devices env. refl;
  of_flight = λ s name devices. refl;
  of_wrote = λ s name devices. refl;
  takes = λ name devices. refl;
  gives = λ name devices. refl;
  on = λ n name devices e. e;
  before = λ name devices p h. h;
  alone = λ rows p name devices. refl;
}

pub more-call : IsAddCall more_cache AddCacheDevs
more-call = record {
  adding = more_adding;
  of_plain = λ s name devices. refl;
  of_outcome = λ s name devices env. refl;
  of_flight = λ s name devices. refl;
  of_wrote = λ s name devices. refl;
  takes = λ name devices. refl;
  gives = λ name devices. refl;
  on = λ n name devices e. e;
  before = λ name devices p h. h;
  alone = λ rows p name devices. refl;
}
