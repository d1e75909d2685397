-- a cache tier: its devices, the cells that are cached, and where the copy of each lies
use Rattle.std.specs.Prelude.{◌≡◌, ◌≢◌, ℕ, ◌*◌, ◌<◌, ◌≤◌, List, [], length, map, Option, Some, None, slice_get}
use Rattle.std.specs.List.{All}
use Rattle.st_units.specs.declared.rows.DevRow.{DevRow}
use Rattle.st_limits.specs.declared.TheConstants.{BLOCK_BYTES, SECTOR_BYTES, RESERVED_SECTORS}
use Rattle.st_limits.specs.Sums.{IsDeviceSize, cache_capacity, usable_blocks}
use Rattle.st_limits.specs.Cache as list
use Rattle.st_seg.specs.Blocks.{Block}
use Rattle.st_linear.specs.Devices.{blocks_of_devices}
use Rattle.st_cachemap.specs.Cached.{Cached, cells_of, place_in}
use Rattle.st_rack.specs.Device.{Path, Image}
use Rattle.st_rack.specs.Calls.{Devices, Has}
use Rattle.st_ranges.specs.Ranges.{Range, bytes_in}
use Rattle.st_ranges.specs.Spots.{PathsDiffer, spot}

-- the rows of its devices, and the list of cached cells with their places
pub record Caching : Type 0 where
  pub rows : List DevRow
  pub list : Cached

-- the rows that a tier may have
pub record AreCacheRows (rows : List DevRow) : Type 0 where
  pub some : 0 < length rows
  pub few : length rows ≤ 16
  pub sizes : All (λ (row : DevRow). IsDeviceSize row.sectors) rows
  pub apart : PathsDiffer rows

abbrev pub sectors_of : List DevRow → List ℕ
sectors_of rows = map (λ (row : DevRow). row.sectors) rows

abbrev pub capacity_of : List DevRow → ℕ
capacity_of rows = cache_capacity (sectors_of rows)

-- a tier in which nothing is cached
abbrev pub empty_tier : List DevRow → Caching
empty_tier rows = record { rows = rows; list = record { capacity = capacity_of rows; entries = []; hits = 0; misses = 0 } }

-- the blocks of its devices, in order: the copy at a place lies in the block of that number
abbrev pub row_blocks : List DevRow → List Block
row_blocks rows = blocks_of_devices 0 (sectors_of rows)

abbrev pub copy_range : List DevRow → ℕ → Range
copy_range rows place = spot rows (row_blocks rows) place

-- The cell's copy, where there is one, is what the image has in this range.
abbrev pub IsCopy : Caching → ℕ → Range → Image → Type 0
IsCopy tier cell origin c = (place : ℕ) → place_in tier.list.entries cell ≡ Some place → bytes_in c (copy_range tier.rows place) ≡ bytes_in c origin

-- where a read of a cell looks: at its copy, or at the origin
abbrev pub source_at : List DevRow → Option ℕ → Range → Range
source_at rows None origin = origin
source_at rows (Some place) origin = copy_range rows place

abbrev pub source : Caching → ℕ → Range → Range
source tier cell origin = source_at tier.rows (place_in tier.list.entries cell) origin

-- all places of a tier: the blocks of each of its devices
abbrev pub cache_ranges : List DevRow → List Range
cache_ranges rows = map (λ (row : DevRow). (row.path, SECTOR_BYTES * RESERVED_SECTORS, BLOCK_BYTES * usable_blocks row.sectors)) rows

-- its devices are in the rack
abbrev pub InRack : Devices → List DevRow → Type 0
InRack devs rows = (k : ℕ) (row : DevRow) → slice_get rows k ≡ Some row → Has devs row.path row.sectors

-- a device is none of the tier's
abbrev pub IsElsewhere : List DevRow → Path → Type 0
IsElsewhere rows dev = (k : ℕ) (row : DevRow) → slice_get rows k ≡ Some row → row.path ≢ dev

-- the cell was read: the list and the counts take note of it
pub record IsTouched (cell : ℕ) (old new : Caching) : Type 0 where
  pub rows : new.rows ≡ old.rows
  pub cells : cells_of new.list ≡ list.touched old.list.capacity cell (cells_of old.list)
  pub hits : new.list.hits ≡ list.hits_after cell (cells_of old.list) old.list.hits
  pub misses : new.list.misses ≡ list.misses_after cell (cells_of old.list) old.list.misses
  pub capacity : new.list.capacity ≡ old.list.capacity

-- the cell was changed: where it is cached it goes to the front
pub record IsPromoted (cell : ℕ) (old new : Caching) : Type 0 where
  pub rows : new.rows ≡ old.rows
  pub cells : cells_of new.list ≡ list.promoted cell (cells_of old.list)
  pub rest : new.list ≡ record old.list { entries = new.list.entries }
