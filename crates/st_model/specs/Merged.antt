-- filesystems in place of others: which cells stay, and what a merge makes of a pool
use Rattle.std.specs.Prelude.{ℕ, ◌==◌, List, Bool, false, ◌&&◌, not, filter, find, map, Option, Some, None, option_map}
use Rattle.std.specs.List.{list_any}
use Rattle.st_model.specs.declared.state.CacheState.{CacheState}
use Rattle.st_model.specs.declared.state.FsState.{FsState}
use Rattle.st_model.specs.declared.state.PoolState.{PoolState}

-- some block of some filesystem has the cell
abbrev pub is_mapped : List FsState → ℕ → Bool
is_mapped filesystems cell = list_any (λ (fs : FsState). list_any (λ (entry : ℕ × ℕ). entry.1 == cell) fs.map) filesystems

-- the pool with these filesystems; cells that are mapped no more go, also from the cache
abbrev pub with_filesystems : List FsState → PoolState → PoolState
with_filesystems filesystems p = record p {
  filesystems = filesystems;
  cells = filter (λ (entry : ℕ × List ℕ). is_mapped filesystems entry.0) p.cells;
  cache = option_map (λ (cache : CacheState). record cache { cells = filter (is_mapped filesystems) cache.cells }) p.cache;
}

abbrev pub is_origin : ℕ → Option ℕ → Bool
is_origin serial None = false
is_origin serial (Some origin) = origin == serial

-- the marked filesystem that is to replace the one of this serial
abbrev pub replacer : ℕ → List FsState → Option FsState
replacer serial = find (λ (fs : FsState). fs.row.merge && is_origin serial fs.row.origin)

-- the marked filesystem of this serial, which goes
abbrev pub leaving : ℕ → List FsState → Option FsState
leaving serial = find (λ (fs : FsState). fs.row.merge && (fs.row.serial == serial))

-- where the origin goes, what it replaces is the origin
abbrev pub origin_for : Option ℕ → Option FsState → Option ℕ
origin_for origin None = origin
origin_for origin (Some gone) = gone.row.origin

abbrev pub merged_origin : List FsState → Option ℕ → Option ℕ
merged_origin filesystems None = None
merged_origin filesystems (Some origin) = origin_for (Some origin) (leaving origin filesystems)

-- the filesystem with size, limit and map of the one that replaces it
abbrev pub replaced_by : FsState → Option FsState → FsState
replaced_by fs None = fs
replaced_by fs (Some other) = record { row = record fs.row { size = other.row.size; limit = other.row.limit }; map = other.map }

abbrev pub with_origin : Option ℕ → FsState → FsState
with_origin origin fs = record fs { row = record fs.row { origin = origin } }

abbrev pub merged_fs : List FsState → FsState → FsState
merged_fs filesystems fs = with_origin (merged_origin filesystems fs.row.origin) (replaced_by fs (replacer fs.row.serial filesystems))

-- all that aren't marked
abbrev pub merged_filesystems : List FsState → List FsState
merged_filesystems filesystems = map (merged_fs filesystems) (filter (λ (fs : FsState). not fs.row.merge) filesystems)

-- For each marked filesystem s with origin o: o has s's size, limit and map, s goes, and a filesystem with origin s has
-- origin o. Cells that are mapped no more go.
abbrev pub merged : PoolState → PoolState
merged p = with_filesystems (merged_filesystems p.filesystems) p
