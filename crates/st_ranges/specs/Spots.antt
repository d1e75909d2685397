-- Where the blocks of a table lie on the devices of some rows.
use Rattle.std.specs.Prelude.{◌≡◌, ℕ, ◌+◌, ◌*◌, ◌≤◌, List, [], Option, Some, None, slice_get}
use Rattle.st_units.specs.declared.rows.DevRow.{DevRow}
use Rattle.st_limits.specs.declared.TheConstants.{SECTOR_BYTES, BLOCK_BYTES, BLOCK_SECTORS}
use Rattle.st_seg.specs.Blocks.{Block}
use Rattle.st_linear.specs.Places.{place_at}
use Rattle.st_rack.specs.Device.{Path}
use Rattle.st_rack.specs.Calls.{Devices, Has}
use Rattle.st_ranges.specs.Ranges.{Range}

abbrev pub path_in : Option DevRow → Path
path_in None = []
path_in (Some row) = row.path

-- a block whose first sector lies there on the device of that number
abbrev pub range_in : List DevRow → Option (ℕ × ℕ) → Range
range_in rows None = ([], 0, 0)
range_in rows (Some place) = (path_in (slice_get rows place.0), SECTOR_BYTES * place.1, BLOCK_BYTES)

-- the range of the b-th block of a table
abbrev pub spot : List DevRow → List Block → ℕ → Range
spot rows blocks b = range_in rows (place_at blocks b)

-- A block lies on a device of the rack, which has the sectors of its row.
pub record IsOn (devs : Devices) (rows : List DevRow) (place : ℕ × ℕ) : Type 0 where
  pub row : DevRow
  pub of : slice_get rows place.0 ≡ Some row
  pub has : Has devs row.path row.sectors
  pub within : place.1 + BLOCK_SECTORS ≤ row.sectors

-- so does each block of a table
abbrev pub AllOn : Devices → List DevRow → List Block → Type 0
AllOn devs rows blocks = (b : ℕ) (place : ℕ × ℕ) → place_at blocks b ≡ Some place → IsOn devs rows place

-- no two rows have one path
abbrev pub PathsDiffer : List DevRow → Type 0
PathsDiffer rows = (i j : ℕ) (a b : DevRow) → slice_get rows i ≡ Some a → slice_get rows j ≡ Some b → a.path ≡ b.path → i ≡ j
