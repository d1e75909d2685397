-- The devices of one rack keep a state of the engine.
use Rattle.std.specs.Prelude.{◌≡◌, ℕ, false, Bool, not, ◌&&◌, None, is_some, option_map, if◌then◌else◌}
use Rattle.std.specs.List.{AllByRecursion, list_any}
use Rattle.st_units.specs.declared.rows.DevRow.{DevRow}
use Rattle.st_model.specs.declared.state.EngineState.{EngineState}
use Rattle.st_model.specs.declared.state.PoolState.{PoolState}
use Rattle.st_model.specs.Look.{flight_of, pool_using, row_of, takes_path, uses}
use Rattle.st_model.specs.Parts.{table_of}
use Rattle.st_rack.specs.Device.{Path, State}
use Rattle.st_rack.specs.Calls.{Devices, Has, sectors_of}
use Rattle.st_image.specs.Kept.{Kept}
use Rattle.st_board.specs.Free.{IsFreeFor}

-- a device that the pool's call in flight takes, and that isn't one of its state
abbrev pub only_in_flight : Path → PoolState → Bool
only_in_flight p pool = takes_path p (flight_of pool.mode) && not (is_some (row_of p pool.devices))

-- The devices of the rack that the pool uses, taken by themselves, keep it.
pub record KeptAlone (pool : PoolState) (devs : Devices) (st : State) : Type 0 where
  pub own : Devices
  pub just : (p : Path) → sectors_of own p ≡ (if uses p pool then sectors_of devs p else None)
  pub kept : Kept pool own st

-- The rack has just the engine's devices, each with its sectors; of one that only a call in flight takes this says that it is there. Each
-- pool's devices keep it, and each device that no pool uses is settled, stands for no pool and speaks of none.
pub record KeptRack (s : EngineState) (devs : Devices) (st : State) : Type 0 where
  pub there : (p : Path) → is_some (sectors_of devs p) ≡ is_some (row_of p s.devices)
  pub sizes : (p : Path) → list_any (only_in_flight p) s.pools ≡ false → sectors_of devs p ≡ option_map (λ (row : DevRow). row.sectors) (row_of p s.devices)
  pub pools : AllByRecursion (λ (pool : PoolState). KeptAlone pool devs st) s.pools
  pub free : (p : Path) (n : ℕ) → Has devs p n → pool_using p s.pools ≡ None → IsFreeFor (table_of s) n (st p)
