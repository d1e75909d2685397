-- What holds of the rows of the mappings.
use Rattle.std.specs.Prelude.{◌≡◌, ℕ, ◌/◌, Bool, true, ◌&&◌, ◌||◌, nat_lt, ◌==◌, List, Option, Some, None, slice_get}
use Rattle.std.specs.List.{list_all}
use Rattle.st_units.specs.declared.rows.FsRow.{FsRow}
use Rattle.st_limits.specs.declared.TheConstants.{BLOCK_SECTORS}
use Rattle.st_flexrec.specs.declared.rows.MapRow.{MapRow}
use Rattle.st_flexrec.specs.Order.{Rises}

-- an earlier filesystem, or a lower block of the same one
abbrev pub is_mapped_before : MapRow → MapRow → Bool
is_mapped_before m later = nat_lt m.fs later.fs || ((m.fs == later.fs) && nat_lt m.block later.block)

-- how many blocks a filesystem has; none where there is no such row
abbrev pub blocks_of : Option FsRow → ℕ
blocks_of None = 0
blocks_of (Some r) = r.size / BLOCK_SECTORS

-- a block of a filesystem of these rows, and the number of one of so many cells
abbrev pub is_map_row : List FsRow → ℕ → MapRow → Bool
is_map_row filesystems cells m = nat_lt m.block (blocks_of (slice_get filesystems m.fs)) && nat_lt m.cell cells

-- the conditions on these rows, beside those of the filesystems and of so many cells
pub record MappingsFit (filesystems : List FsRow) (cells : ℕ) (rows : List MapRow) : Type 0 where
  pub mappings_rise : Rises is_mapped_before rows
  pub each_fits : list_all (is_map_row filesystems cells) rows ≡ true
