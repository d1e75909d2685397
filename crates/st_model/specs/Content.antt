-- what a filesystem holds: each sector reads as that of its block's cell, or as zeros where the block isn't mapped
use Rattle.std.specs.Prelude.{ℕ, ◌+◌, ◌-◌, ◌*◌, ◌/◌, ◌%◌, ◌==◌, min, nat_eq, Bool, false, List, [], ◌∷◌, map, flat_map, take, drop, replicate, Option, Some, None, is_some, unwrap_or, if◌then◌else◌}
use Rattle.std.specs.List.{list_any}
use Rattle.std.specs.Map.{lookup}
use Rattle.st_limits.specs.declared.TheConstants.{BLOCK_BYTES, BLOCK_SECTORS, SECTOR_BYTES}
use Rattle.st_model.specs.declared.state.FsState.{FsState}
use Rattle.st_model.specs.declared.state.PoolState.{PoolState}
use Rattle.st_model.specs.Checks.{fs_at}
use Rattle.st_model.specs.Look.{Text}

-- sectors of one block: the block, the place of the first in it, and how many
pub record Stretch : Type 0 where
  pub block : ℕ
  pub at : ℕ
  pub sectors : ℕ

-- how many of so many sectors lie in a block, from this place in it on
abbrev pub in_block : ℕ → ℕ → ℕ
in_block at n = min n (BLOCK_SECTORS - at)

-- So many sectors from this one on, block by block in rising order: two blocks at most, since no call has more sectors than a block.
abbrev pub stretches : ℕ → ℕ → List Stretch
stretches sector n =
    let at = sector % BLOCK_SECTORS in
    let here = in_block at n in
    record { block = sector / BLOCK_SECTORS; at = at; sectors = here }
    ∷ (if here == n then [] else record { block = sector / BLOCK_SECTORS + 1; at = 0; sectors = in_block 0 (n - here) } ∷ [])

-- the blocks that they touch
abbrev pub touched : ℕ → ℕ → List ℕ
touched sector n = map (λ (s : Stretch). s.block) (stretches sector n)

-- the cell that a map gives to a block
abbrev pub cell_at : ℕ → List (ℕ × ℕ) → Option ℕ
cell_at block = lookup (nat_eq block)

-- the cell of each mapping of the pool
abbrev pub mapped_cells : List FsState → List ℕ
mapped_cells filesystems = flat_map (λ (fs : FsState). map (λ (e : ℕ × ℕ). e.1) fs.map) filesystems

-- the bytes of a block that has this cell, or none
abbrev pub bytes_at : List (ℕ × List ℕ) → Option ℕ → List ℕ
bytes_at cells None = replicate BLOCK_BYTES 0
bytes_at cells (Some cell) = unwrap_or (lookup (nat_eq cell) cells) (replicate BLOCK_BYTES 0)

abbrev pub block_bytes : PoolState → FsState → ℕ → List ℕ
block_bytes p fs block = bytes_at p.cells (cell_at block fs.map)

-- what a sector of the filesystem reads as
abbrev pub sector_bytes : PoolState → FsState → ℕ → List ℕ
sector_bytes p fs sector = take SECTOR_BYTES (drop (SECTOR_BYTES * (sector % BLOCK_SECTORS)) (block_bytes p fs (sector / BLOCK_SECTORS)))

-- whether one of the sectors lies in a block that is mapped, so that a device is read
abbrev pub fs_touches : ℕ → ℕ → Option FsState → Bool
fs_touches sector n None = false
fs_touches sector n (Some fs) = list_any (λ block. is_some (cell_at block fs.map)) (touched sector n)

abbrev pub touches_mapped : Text → ℕ → ℕ → Option PoolState → Bool
touches_mapped name sector n None = false
touches_mapped name sector n (Some p) = fs_touches sector n (fs_at name p.filesystems)
