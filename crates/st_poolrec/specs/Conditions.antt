-- What holds of the rows of a pool record, beside how they are spelled.
use Rattle.std.specs.Prelude.{ℕ, ◌+◌, Bool, true, false, not, ◌&&◌, ◌||◌, nat_le, nat_lt, ◌==◌, List, [], ◌∷◌, length, if◌then◌else◌}
use Rattle.std.specs.List.{list_all}
use Rattle.std.specs.Str.{bytes_eq}
use Rattle.st_limits.specs.declared.TheConstants.{FLEX_BLOCKS, MAX_FILESYSTEMS, MAX_FILESYSTEMS_V1, MIN_DEVICE_SECTORS, MAX_DEVICE_SECTORS}
use Rattle.st_limits.specs.Sums.{usable_blocks}
use Rattle.st_units.specs.declared.rows.DevRow.{DevRow}
use Rattle.st_units.specs.declared.rows.Segment.{Segment}
use Rattle.st_units.specs.declared.rows.Tier.{Tier}
use Rattle.st_units.specs.declared.rows.Tier.TheVariants.{DataTier, CacheTier}

-- the most filesystems that a pool may be limited to
abbrev pub most_filesystems : Bool → ℕ
most_filesystems version2 = if version2 then MAX_FILESYSTEMS else MAX_FILESYSTEMS_V1

abbrev pub is_data : Tier → Bool
is_data DataTier = true
is_data CacheTier = false

-- the first row is a data row
abbrev pub begins_with_data : List DevRow → Bool
begins_with_data [] = false
begins_with_data (d ∷ ds) = is_data d.tier

-- a size that a device of a pool may have
abbrev pub has_fit_size : DevRow → Bool
has_fit_size d = nat_le MIN_DEVICE_SECTORS d.sectors && nat_le d.sectors MAX_DEVICE_SECTORS

abbrev pub has_other_path : DevRow → DevRow → Bool
has_other_path d other = not (bytes_eq other.path d.path)

-- no two devices have one path
abbrev pub have_own_paths : List DevRow → Bool
have_own_paths [] = true
have_own_paths (d ∷ ds) = list_all (has_other_path d) ds && have_own_paths ds

-- the first usable blocks of the first device hold the flex record
abbrev pub first_block : ℕ → ℕ
first_block at = if at == 0 then FLEX_BLOCKS else 0

-- a segment of the device in this row: from its first block on, at least one block, within the device
abbrev pub is_part : ℕ → DevRow → Segment → Bool
is_part at d s = (s.dev == at) && ((s.first == first_block at) && (nat_lt 0 s.blocks && nat_le (s.first + s.blocks) (usable_blocks d.sectors)))

-- a segment ends with the last usable block of its device
abbrev pub ends_device : DevRow → Segment → Bool
ends_device d s = s.first + s.blocks == usable_blocks d.sectors

-- The segments take the data rows in order, none left out, each but the last to its device's end. The rows count from `at`.
abbrev pub take_in_order : ℕ → List Segment → List DevRow → Bool
take_in_order at [] devs = true
take_in_order at (s ∷ ss) [] = false
take_in_order at (s ∷ ss) (d ∷ ds) =
    if is_data d.tier then (is_part at d s && (((length ss == 0) || ends_device d s) && take_in_order (at + 1) ss ds)) else take_in_order (at + 1) (s ∷ ss) ds

-- the conditions on the rows
abbrev pub rows_fit : List DevRow → List Segment → Bool
rows_fit devs segments = begins_with_data devs && (list_all has_fit_size devs && (have_own_paths devs && take_in_order 0 segments devs))
