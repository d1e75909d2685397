-- the sums of a pool, counted from its devices and maps
use Rattle.std.specs.Prelude.{ℕ, ◌-◌, ◌/◌, ◌≤◌, Bool, true, nat_lt, nat_eq, List, Option, Some, None, is_none, sum_by, count_by}
use Rattle.std.specs.Map.{lookup}
use Rattle.std.specs.Set.{distinct_count}
use Rattle.st_limits.specs.declared.TheConstants.{BLOCK_SECTORS, RESERVED_SECTORS, FLEX_BLOCKS, MIN_DEVICE_SECTORS, MAX_DEVICE_SECTORS}

-- a size that a device of a pool may have
abbrev pub IsDeviceSize : ℕ → Type 0
IsDeviceSize sectors = (MIN_DEVICE_SECTORS ≤ sectors) × (sectors ≤ MAX_DEVICE_SECTORS)

-- the usable blocks of a device of so many sectors: what lies behind the head, in whole blocks
abbrev pub usable_blocks : ℕ → ℕ
usable_blocks sectors = (sectors - RESERVED_SECTORS) / BLOCK_SECTORS

-- the cache's capacity, from the sectors of its devices
abbrev pub cache_capacity : List ℕ → ℕ
cache_capacity sectors = sum_by usable_blocks sectors

-- the data tier's room, from the sectors of its devices: the records of filesystems take the first blocks
abbrev pub room : List ℕ → ℕ
room sectors = sum_by usable_blocks sectors - FLEX_BLOCKS

-- how many distinct cells are mapped; `cells` has an item for each mapped block of each filesystem
abbrev pub used : List ℕ → ℕ
used cells = distinct_count nat_eq cells

-- whether the cell is mapped at more than one place
abbrev pub is_shared : List ℕ → ℕ → Bool
is_shared cells cell = nat_lt 1 (count_by (nat_eq cell) cells)

-- whether a write to the block takes a fresh cell; `map` has the filesystem's pairs of block and cell
abbrev pub takes_cell : List (ℕ × ℕ) → List ℕ → ℕ → Bool
takes_cell map cells block = cell_taken (lookup (nat_eq block) map)
  where
    cell_taken : Option ℕ → Bool
    cell_taken None = true
    cell_taken (Some cell) = is_shared cells cell

-- how many blocks a write touches that are unmapped or whose cell is shared
abbrev pub needed : List (ℕ × ℕ) → List ℕ → List ℕ → ℕ
needed map cells blocks = count_by (takes_cell map cells) blocks

-- how many blocks a write touches that are unmapped
abbrev pub more : List (ℕ × ℕ) → List ℕ → ℕ
more map blocks = count_by (λ block. is_none (lookup (nat_eq block) map)) blocks
