-- What may survive a call on a pool that is cut off.
use Rattle.std.specs.Prelude.{◌≡◌, ◌⊎◌, ℕ, ◌+◌, List, [], ◌∷◌, length, map, Option, Some, None, option_map}
use Rattle.st_units.specs.declared.rows.DevRow.{DevRow}
use Rattle.st_units.specs.declared.rows.Tier.TheVariants.{DataTier}
use Rattle.st_model.specs.declared.call.Call.{Call}
use Rattle.st_model.specs.declared.call.Call.TheVariants.{CreatePool}
use Rattle.st_model.specs.declared.entry.Env.TheVariants.{Plain}
use Rattle.st_model.specs.declared.state.PoolMode.TheVariants.{Up, Stopped}
use Rattle.st_model.specs.declared.state.PoolState.{PoolState}
use Rattle.st_model.specs.declared.state.EngineState.{EngineState}
use Rattle.st_model.specs.Checks.{cooled, down}
use Rattle.st_model.specs.InPlace.{in_place, size_of, with_bytes}
use Rattle.st_model.specs.Merged.{merged}
use Rattle.st_model.specs.Step.{step}
use Rattle.st_rack.specs.Device.{Path}
use Rattle.st_rack.specs.Calls.{Devices}

-- what devices keep of a pool: its merge, not started, with an empty cache
abbrev pub recorded : PoolState → PoolState
recorded pool = cooled Stopped (merged pool)

abbrev pub row_of : Path × ℕ → DevRow
row_of d = record { path = d.0; tier = DataTier; sectors = d.1 }

-- an engine with this pool alone, started with an empty cache, before the call; for a call that makes it, without it
abbrev pub state_alone : PoolState → Call → Devices → EngineState
state_alone pool (CreatePool name devices) devs = record { pools = []; devices = map row_of devs; next = pool.serial }
state_alone pool _ devs = record { pools = cooled Up pool ∷ []; devices = map row_of devs; next = pool.serial + 1 }

abbrev pub the_pool : List PoolState → Option PoolState
the_pool [] = None
the_pool (pool ∷ pools) = Some pool

-- the pool after the call, or none where the call ends it
abbrev pub after : PoolState → Call → Devices → Option PoolState
after pool call devs = option_map recorded (the_pool (step (state_alone pool call devs) call Plain).1.pools)

-- the pool before the call, with any bytes in the sectors in place; for a call that makes it, none
abbrev pub IsBefore : PoolState → Call → Option PoolState → Type 0
IsBefore pool (CreatePool name devices) found = found ≡ None
IsBefore pool call found = (h : List ℕ) × (length h ≡ size_of (in_place pool call)) × (found ≡ Some (recorded (with_bytes pool call h)))

abbrev pub Survives : PoolState → Call → Devices → Option PoolState → Type 0
Survives pool call devs found = IsBefore pool call found ⊎ (found ≡ after pool call devs)

-- a pool whose call failed: the state before the call, with an empty cache
abbrev pub in_flight : PoolState → Call → PoolState
in_flight pool call = down call pool
