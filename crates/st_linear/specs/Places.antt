-- where the blocks of a table of segments lie
use Rattle.std.specs.Prelude.{ℕ, ◌+◌, ◌*◌, List, Option, slice_get}
use Rattle.std.specs.Option.{option_map}
use Rattle.st_seg.specs.Blocks.{Block}
use Rattle.st_limits.specs.declared.TheConstants.{RESERVED_SECTORS, BLOCK_SECTORS}

-- a block's device, and its first sector there
abbrev pub place_of : Block → ℕ × ℕ
place_of block = (block.0, RESERVED_SECTORS + BLOCK_SECTORS * block.1)

-- the place of the b-th block
abbrev pub place_at : List Block → ℕ → Option (ℕ × ℕ)
place_at blocks b = option_map place_of (slice_get blocks b)
