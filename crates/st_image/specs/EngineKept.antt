-- Whether the devices of a rack keep a state of the engine.
use Rattle.std.specs.Prelude.{◌≡◌, ◌⊎◌, ℕ, ◌<◌, ◌≤◌, map, Some, None}
use Rattle.std.specs.List.{AllByRecursion}
use Rattle.st_model.specs.declared.state.EngineState.{EngineState}
use Rattle.st_model.specs.declared.state.PoolState.{PoolState}
use Rattle.st_limits.specs.declared.TheConstants.{MAX_POOL_SERIAL}
use Rattle.st_model.specs.Look.{pool_using}
use Rattle.st_model.specs.Found.{with_own_serial}
use Rattle.st_commit.specs.Standing.{keep}
use Rattle.st_rack.specs.Story.{Content}
use Rattle.st_rack.specs.Device.{Path, DevState, State}
use Rattle.st_rack.specs.Calls.{Devices, Has}
use Rattle.st_rack.specs.Left.{LeavesFairly}
use Rattle.st_image.specs.Looks.{slot_on, look_of}
use Rattle.st_image.specs.Bears.{newest_on}
use Rattle.st_image.specs.Kept.{NoneOrGone, Kept}
use Rattle.st_image.specs.Survivors.{row_of}

-- Whatever a crash now may leave on a device of so many sectors, by itself it stands for no pool.
abbrev pub StandsForNone : ℕ → DevState → Type 0
StandsForNone sectors s = (f : Content) → LeavesFairly (look_of 0 0 1) s f → (q : ℕ) → NoneOrGone (newest_on q sectors f)

-- the serial of a pool that is known, or that may come
abbrev pub IsClaimed : EngineState → ℕ → Type 0
IsClaimed e q = ((pool : PoolState) × (with_own_serial q e ≡ Some pool)) ⊎ ((e.next ≤ q) × (q ≤ MAX_POOL_SERIAL))

-- Whatever a crash now may leave on it, none of its slots for records is of a pool that is known, or that may come.
abbrev pub SpeaksOfNone : EngineState → ℕ → DevState → Type 0
SpeaksOfNone e sectors s = (f : Content) → LeavesFairly (look_of 0 0 1) s f → (place : ℕ) → place < 2 → (q : ℕ) → IsClaimed e q → keep q (slot_on sectors place f) ≡ None

-- The devices keep each pool, and each free one stands for no pool and speaks of none.
pub record EngineKept (e : EngineState) (devs : Devices) (s : State) : Type 0 where
  pub devices : e.devices ≡ map row_of devs
  pub pools : AllByRecursion (λ (pool : PoolState). Kept pool devs s) e.pools
  pub free : (d : Path) (n : ℕ) → Has devs d n → pool_using d e.pools ≡ None → StandsForNone n (s d)
  pub silent : (d : Path) (n : ℕ) → Has devs d n → pool_using d e.pools ≡ None → SpeaksOfNone e n (s d)
