-- The devices of each known pool, on a rack of their own.
use Rattle.std.specs.Prelude.{◌≡◌, ◌≢◌, ℕ, true, false, List, Some, None, bytes_eq, slice_get, if◌then◌else◌}
use Rattle.std.specs.List.{IsDistinct}
use Rattle.st_model.specs.declared.state.EngineState.{EngineState}
use Rattle.st_model.specs.declared.state.PoolState.{PoolState}
use Rattle.st_model.specs.Look.{flight_of, is_started, uses}
use Rattle.st_rack.specs.Device.{Path, State, held}
use Rattle.st_rack.specs.Calls.{Devices, Has, names, sectors_of}
use Rattle.st_image.specs.Bears.{newest_on, paths}
use Rattle.st_image.specs.Kept.{in_use, Kept}
use Rattle.st_image.specs.Stands.{StandsFor}
use Rattle.st_parting.specs.Found.{IsFoundOn}

-- the devices of the rack that the pool uses
abbrev pub used_by : PoolState → Devices → List Path
used_by pool devs = paths (in_use pool devs)

-- These are the devices that the list names, and each is what it was.
pub record IsPart (list : List Path) (devs : Devices) (s : State) (own : Devices) (t : State) : Type 0 where
  pub devices : (p : Path) → sectors_of own p ≡ (if names list p then sectors_of devs p else None)
  pub states : (p : Path) → names list p ≡ true → t p ≡ s p

-- The pool isn't started, these are its devices and no others, and they stand for it and keep it.
pub record KeepsOwn (pool : PoolState) (devs own : Devices) (t : State) : Type 0 where
  pub idle : is_started pool.mode ≡ false
  pub flight : flight_of pool.mode ≡ None
  pub same : in_use pool own ≡ in_use pool devs
  pub there : (k : ℕ) (d : Path × ℕ) → slice_get (in_use pool own) k ≡ Some d → Has own d.0 d.1
  pub alone : (p : Path) (n : ℕ) → Has own p n → names (used_by pool own) p ≡ true
  pub stands : StandsFor pool.serial (in_use pool own) (held t) (Some pool)
  pub kept : Kept pool own t

-- Each known pool is kept by its own devices, on a rack of their own.
abbrev pub PoolsPart : Type 0
PoolsPart = (devs : Devices) (s : State) (e : EngineState) → IsFoundOn devs s e → (k : ℕ) (pool : PoolState) → slice_get e.pools k ≡ Some pool
    → (own : Devices) (t : State) → IsPart (used_by pool devs) devs s own t → KeepsOwn pool devs own t

-- The devices that known pools use: the rack has them, each pool uses each of its own once, and no two pools use one.
pub record LieApart (devs : Devices) (e : EngineState) : Type 0 where
  pub distinct : (k : ℕ) (pool : PoolState) → slice_get e.pools k ≡ Some pool → IsDistinct bytes_eq (used_by pool devs)
  pub there : (k : ℕ) (pool : PoolState) → slice_get e.pools k ≡ Some pool → (p : Path) → names (used_by pool devs) p ≡ true → (n : ℕ) × Has devs p n
  pub used : (k : ℕ) (pool : PoolState) → slice_get e.pools k ≡ Some pool → (p : Path) (n : ℕ) → Has devs p n → uses p pool ≡ names (used_by pool devs) p
  pub apart : (j k : ℕ) (a b : PoolState) → slice_get e.pools j ≡ Some a → slice_get e.pools k ≡ Some b → j ≢ k → (p : Path) → names (used_by a devs) p ≡ true → names (used_by b devs) p ≡ false

abbrev pub PoolsLieApart : Type 0
PoolsLieApart = (devs : Devices) (s : State) (e : EngineState) → IsFoundOn devs s e → LieApart devs e

-- No device that a known pool uses bears a candidate of another pool.
abbrev pub ForOneAlone : Type 0
ForOneAlone = (devs : Devices) (s : State) (e : EngineState) → IsFoundOn devs s e → (k : ℕ) (pool : PoolState) → slice_get e.pools k ≡ Some pool
    → (p : Path) (n q : ℕ) → Has devs p n → names (used_by pool devs) p ≡ true → q ≢ pool.serial → newest_on q n (held s p) ≡ None
