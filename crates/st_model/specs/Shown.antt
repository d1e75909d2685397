-- what reports show of pools, and of the table
use Rattle.std.specs.Prelude.{ℕ, List, [], ◌∷◌, map, filter, not, is_none, Bool, length, take_while, insert, option_map}
use Rattle.std.specs.Ordering.{is_lt, nat_cmp}
use Rattle.std.specs.Cmp.Lexicographic.{slice_cmp}
use Rattle.st_units.specs.declared.rows.DevRow.{DevRow}
use Rattle.st_model.specs.declared.info.CacheInfo.{CacheInfo}
use Rattle.st_model.specs.declared.info.FsInfo.{FsInfo}
use Rattle.st_model.specs.declared.info.PoolInfo.{PoolInfo}
use Rattle.st_model.specs.declared.info.StoppedRow.{StoppedRow}
use Rattle.st_model.specs.declared.info.TableInfo.{TableInfo}
use Rattle.st_model.specs.declared.info.ShownMode.{ShownMode}
use Rattle.st_model.specs.declared.info.ShownMode.TheVariants as shows
use Rattle.st_model.specs.declared.state.PoolMode.{PoolMode}
use Rattle.st_model.specs.declared.state.PoolMode.TheVariants.{Up, Down, Stopped, Unsettled, Incomplete}
use Rattle.st_model.specs.declared.state.CacheState.{CacheState}
use Rattle.st_model.specs.declared.state.FsState.{FsState}
use Rattle.st_model.specs.declared.state.PoolState.{PoolState}
use Rattle.st_model.specs.declared.state.EngineState.{EngineState}
use Rattle.st_model.specs.Look.{Text, pool_using, is_started}
use Rattle.st_model.specs.Sums.{room, used}

abbrev pub shown_mode : PoolMode → ShownMode
shown_mode Up = shows.Up
shown_mode (Down call) = shows.Down
shown_mode Stopped = shows.Stopped
shown_mode (Unsettled call) = shows.Unsettled
shown_mode (Incomplete path) = shows.Incomplete

abbrev pub fs_info : FsState → FsInfo
fs_info fs = record { row = fs.row; mapped = length fs.map }

abbrev pub cache_info : CacheState → CacheInfo
cache_info cache = record { blocks = cache.capacity; hits = cache.hits; misses = cache.misses; used = length cache.cells }

unfoldable pub pool_info : PoolState → PoolInfo
pool_info pool = record {
  serial = pool.serial;
  name = pool.name;
  mode = shown_mode pool.mode;
  devs = pool.devices;
  filesystems = map fs_info pool.filesystems;
  fs_limit = pool.filesystem_limit;
  overprovisioning = pool.overprovisioning;
  room = room pool;
  allocated = pool.allocated;
  used = used pool;
  cache = option_map cache_info pool.cache;
}

unfoldable pub stopped_row : PoolState → StoppedRow
stopped_row pool = record { name = pool.name; serial = pool.serial; mode = shown_mode pool.mode }

abbrev pub comes_before : Text → Text → Bool
comes_before a b = is_lt (slice_cmp nat_cmp a b)

-- how many infos at the front have a lower name
abbrev pub place_among : List PoolInfo → Text → ℕ
place_among infos name = length (take_while (λ (info : PoolInfo). comes_before info.name name) infos)

abbrev pub place_among_stopped : List StoppedRow → Text → ℕ
place_among_stopped rows name = length (take_while (λ (row : StoppedRow). comes_before row.name name) rows)

-- these infos and those of the pools, each put behind all of lower names: in byte order of the names
abbrev pub infos_with : List PoolInfo → List PoolState → List PoolInfo
infos_with infos [] = infos
infos_with infos (pool ∷ pools) = infos_with (insert infos (place_among infos pool.name) (pool_info pool)) pools

abbrev pub stopped_with : List StoppedRow → List PoolState → List StoppedRow
stopped_with rows [] = rows
stopped_with rows (pool ∷ pools) = stopped_with (insert rows (place_among_stopped rows pool.name) (stopped_row pool)) pools

-- the devices that no pool uses; the rack's devices rise in byte order, so these do
abbrev pub free_paths : List PoolState → List DevRow → List Text
free_paths pools rows = map (λ (row : DevRow). row.path) (filter (λ (row : DevRow). is_none (pool_using row.path pools)) rows)

abbrev pub started_pools : List PoolState → List PoolState
started_pools pools = filter (λ (pool : PoolState). is_started pool.mode) pools

abbrev pub halted_pools : List PoolState → List PoolState
halted_pools pools = filter (λ (pool : PoolState). not (is_started pool.mode)) pools

abbrev pub table_info : EngineState → TableInfo
table_info s = record { next = s.next; free = free_paths s.pools s.devices; stopped = stopped_with [] (halted_pools s.pools) }
