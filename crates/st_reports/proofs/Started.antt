-- the started pool of a name, found among all pools
use Rattle.std.proofs.Common.{◌≡◌, ◌&&◌, List, [], ◌∷◌, Bool, true, false, cond, find, Some, refl, ap}
use Rattle.std.specs.List.{AllByRecursion}
use Rattle.st_model.specs.declared.state.PoolState.{PoolState}
use Rattle.st_model.specs.Look.{Text, is_called, is_started}
use Rattle.st_model.specs.Parts.{pool_at}
use Rattle.st_model.specs.Shown.{started_pools}
use Rattle.st_model.specs.Sums.{AreSmall}
use Rattle.st_model.proofs.Flights.{found-holds}
use Rattle.st_model.proofs.Lists.{All-filter}

pub find_started : (name : Text) (pools : List PoolState) → find (λ (pool : PoolState). is_started pool.mode && is_called name pool) pools ≡ pool_at name (started_pools pools)
find_started name [] = refl
find_started name (p ∷ pools) = here (is_started p.mode) (find_started name pools)
  where
    test : PoolState → Bool
    test pool = is_started pool.mode && is_called name pool

    here : (b : Bool) → find test pools ≡ pool_at name (started_pools pools)
        → cond (b && is_called name p) (Some p) (find test pools) ≡ pool_at name (cond b (p ∷ started_pools pools) (started_pools pools))
    here true rest = ap (λ o. cond (is_called name p) (Some p) o) rest
    here false rest = rest

pub small_one : (name : Text) (pools : List PoolState) (p : PoolState) → AllByRecursion (λ (pool : PoolState). AreSmall pool.devices) pools → pool_at name (started_pools pools) ≡ Some p → AreSmall p.devices
small_one name pools p a h = found-holds (λ (pool : PoolState). AreSmall pool.devices) (is_called name) (started_pools pools) p (All-filter (λ (pool : PoolState). AreSmall pool.devices) (λ (pool : PoolState). is_started pool.mode) pools a) h
