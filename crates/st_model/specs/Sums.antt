-- what reports say of a pool's space; all counts are of blocks
use Rattle.std.specs.Prelude.{ℕ, ◌-◌, ◌≤◌, List, length, sum_by, map, filter, not, Bool, true, false}
use Rattle.std.specs.List.{AllByRecursion}
use Rattle.st_units.specs.declared.rows.DevRow.{DevRow}
use Rattle.st_units.specs.declared.rows.Tier.{Tier}
use Rattle.st_units.specs.declared.rows.Tier.TheVariants.{DataTier, CacheTier}
use Rattle.st_limits.specs.Sums as limits
use Rattle.st_limits.specs.declared.TheConstants.{MAX_POOL_DEVICES, MAX_DEVICE_SECTORS}
use Rattle.st_model.specs.declared.state.FsState.{FsState}
use Rattle.st_model.specs.declared.state.PoolState.{PoolState}

abbrev pub is_data : Tier → Bool
is_data DataTier = true
is_data CacheTier = false

-- the devices of the data tier
abbrev pub data_tier : List DevRow → List DevRow
data_tier rows = filter (λ (row : DevRow). is_data row.tier) rows

-- the devices of the cache tier
abbrev pub cache_rows : List DevRow → List DevRow
cache_rows rows = filter (λ (row : DevRow). not (is_data row.tier)) rows

abbrev pub sectors_in : List DevRow → List ℕ
sectors_in rows = map (λ (row : DevRow). row.sectors) rows

-- the blocks that the data tier could give
abbrev pub room : PoolState → ℕ
room pool = limits.room (sectors_in (data_tier pool.devices))

-- the entries of all maps
abbrev pub mappings : PoolState → ℕ
mappings pool = sum_by (λ (fs : FsState). length fs.map) pool.filesystems

-- the distinct cells that are mapped: a state has just the cells that some map names
abbrev pub used : PoolState → ℕ
used pool = length pool.cells

-- the allocated blocks that no cell has
abbrev pub free : PoolState → ℕ
free pool = pool.allocated - used pool

-- few devices, none too large, so that no sum of their blocks is out of range
pub record AreSmall (rows : List DevRow) : Type 0 where
  pub few : length rows ≤ MAX_POOL_DEVICES
  pub small : AllByRecursion (λ (row : DevRow). row.sectors ≤ MAX_DEVICE_SECTORS) rows
