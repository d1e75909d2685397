-- The blocks that a pool's devices have for data, numbered as rows of its record.
use Rattle.std.specs.Prelude.{ℕ, ◌+◌, ◌-◌, List, [], ◌∷◌, ◌++◌}
use Rattle.st_units.specs.declared.rows.DevRow.{DevRow}
use Rattle.st_units.specs.declared.rows.Tier.{Tier}
use Rattle.st_units.specs.declared.rows.Tier.TheVariants.{DataTier, CacheTier}
use Rattle.st_limits.specs.Sums.{usable_blocks}
use Rattle.st_seg.specs.Blocks.{Block, blocks_from}
use Rattle.st_datatier.specs.Tier.{first_block_of}

-- the blocks for data of the device in this row
abbrev pub own_blocks : Tier → ℕ → ℕ → List Block
own_blocks DataTier at sectors = blocks_from at (first_block_of at) (usable_blocks sectors - first_block_of at)
own_blocks CacheTier at sectors = []

-- those of all rows, which are numbered from `at` on
abbrev pub row_blocks : ℕ → List DevRow → List Block
row_blocks at [] = []
row_blocks at (row ∷ rows) = own_blocks row.tier at row.sectors ++ row_blocks (at + 1) rows
