-- the data tier: its devices in order, and how many of their blocks are in use
use Rattle.std.specs.Prelude.{◌≡◌, ℕ, ◌+◌, ◌-◌, ◌*◌, ◌<◌, ◌≤◌, ◌==◌, List, ◌++◌, length, map, drop, slice_index, if◌then◌else◌}
use Rattle.st_units.specs.declared.rows.DevRow.{DevRow}
use Rattle.st_seg.specs.Blocks.{Block}
use Rattle.st_linear.specs.Devices.{blocks_of_devices}
use Rattle.st_limits.specs.Sums.{room}
use Rattle.st_limits.specs.declared.TheConstants.{FLEX_BLOCKS, BLOCK_SECTORS, RESERVED_SECTORS}

-- what a data tier stands for: the sectors of its devices, in order, and the blocks that are allocated
pub record Tier : Type 0 where
  pub sectors : List ℕ
  pub allocated : ℕ

abbrev pub sectors_of : List DevRow → List ℕ
sectors_of rows = map (λ row. row.sectors) rows

-- the blocks for data, in order: the flex area takes the first ones, once in the whole tier
unfoldable pub data_blocks : List ℕ → List Block
data_blocks sectors = drop FLEX_BLOCKS (blocks_of_devices 0 sectors)

abbrev pub free_of : Tier → ℕ
free_of tier = room tier.sectors - tier.allocated

-- the tier with more devices, which come last, or with more blocks in use
abbrev pub with_devices : Tier → List ℕ → Tier
with_devices tier more = record { sectors = tier.sectors ++ more; allocated = tier.allocated }

abbrev pub with_allocated : Tier → ℕ → Tier
with_allocated tier n = record { sectors = tier.sectors; allocated = tier.allocated + n }

-- the first block for data of the device of this number
abbrev pub first_block_of : ℕ → ℕ
first_block_of dev = if dev == 0 then FLEX_BLOCKS else 0

-- a place where a block for data may lie: within a device of the tier, and behind what is reserved there
pub record LiesOn (sectors : List ℕ) (dev first : ℕ) : Type 0 where
  pub device : dev < length sectors
  pub behind_head : RESERVED_SECTORS ≤ first
  pub behind_flex : dev ≡ 0 → RESERVED_SECTORS + BLOCK_SECTORS * FLEX_BLOCKS ≤ first
  pub within : first + BLOCK_SECTORS ≤ slice_index sectors dev
