-- the state before a call in flight, and what of a call goes into the mode of a pool
use Rattle.std.specs.Prelude.{ℕ, ◌==◌, List, [], filter, map, not, Option, Some, None, if◌then◌else◌}
use Rattle.st_model.specs.declared.call.Call.{Call}
use Rattle.st_model.specs.declared.call.Call.TheVariants.{CreatePool, DestroyPool, RenamePool, AddDataDevs, InitCache, AddCacheDevs, CreateFilesystems, DestroyFilesystems, SnapshotFilesystem, RenameFilesystem, SetSizeLimit, SetFsLimit, SetOverprovisioning, FsWrite, FsRead, Check, SetMerge}
use Rattle.st_model.specs.declared.state.EngineState.{EngineState}
use Rattle.st_model.specs.declared.state.PoolMode.TheVariants.{Up}
use Rattle.st_model.specs.declared.state.PoolState.{PoolState}
use Rattle.st_model.specs.Look.{Text, distinct, has_path}
use Rattle.st_model.specs.Parts.{pool_at}
use Rattle.st_model.specs.steps.CreatePool.{data_paths}
use Rattle.st_model.specs.Sums.{cache_rows}
use Rattle.st_units.specs.declared.rows.DevRow.{DevRow}

-- the pool, which is started where it has this serial
abbrev pub started_as : ℕ → PoolState → PoolState
started_as serial p = if p.serial == serial then record p { mode = Up } else p

abbrev pub all_but : ℕ → List PoolState → List PoolState
all_but serial = filter (λ (p : PoolState). not (p.serial == serial))

-- the pool started, as it was before the call; for a call that was to make it, the other pools, with its serial next
abbrev pub state_before : EngineState → PoolState → Call → EngineState
state_before s p (CreatePool name devices) = record s { pools = all_but p.serial s.pools; next = p.serial }
state_before s p _ = record s { pools = map (started_as p.serial) s.pools }

abbrev pub cache_paths : List DevRow → List Text
cache_paths rows = map (λ (row : DevRow). row.path) (cache_rows rows)

-- the devices of a tier, where there is the pool
abbrev pub paths_in : (List DevRow → List Text) → Option PoolState → List Text
paths_in tier None = []
paths_in tier (Some p) = tier p.devices

-- the devices that are new to the tier, each once
abbrev pub new_to : List Text → List Text → List Text
new_to tier devices = filter (λ path. not (has_path path tier)) (distinct devices)

-- the pool on which a write of the call may fail, and the call that is then in flight; none of calls that never write
abbrev pub in_flight : EngineState → Call → Option (Text × Call)
in_flight s (DestroyPool name) = Some (name, DestroyPool name)
in_flight s (RenamePool name new) = Some (name, RenamePool name new)
in_flight s (AddDataDevs pool devices) = Some (pool, AddDataDevs pool (new_to (paths_in data_paths (pool_at pool s.pools)) devices))
in_flight s (InitCache pool devices) = Some (pool, InitCache pool (new_to (paths_in cache_paths (pool_at pool s.pools)) devices))
in_flight s (AddCacheDevs pool devices) = Some (pool, AddCacheDevs pool (new_to (paths_in cache_paths (pool_at pool s.pools)) devices))
in_flight s (CreateFilesystems pool filesystems) = Some (pool, CreateFilesystems pool filesystems)
in_flight s (DestroyFilesystems pool names) = Some (pool, DestroyFilesystems pool names)
in_flight s (SnapshotFilesystem pool origin name) = Some (pool, SnapshotFilesystem pool origin name)
in_flight s (RenameFilesystem pool name new) = Some (pool, RenameFilesystem pool name new)
in_flight s (SetSizeLimit pool name limit) = Some (pool, SetSizeLimit pool name limit)
in_flight s (SetFsLimit pool limit) = Some (pool, SetFsLimit pool limit)
in_flight s (SetOverprovisioning pool value) = Some (pool, SetOverprovisioning pool value)
in_flight s (FsWrite pool name sector payload) = Some (pool, FsWrite pool name sector payload)
in_flight s (FsRead pool name sector sectors) = Some (pool, FsRead pool name sector sectors)
in_flight s (Check pool) = Some (pool, Check pool)
in_flight s (SetMerge pool name value) = Some (pool, SetMerge pool name value)
in_flight s _ = None
