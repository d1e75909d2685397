-- the blocks in use as segments of a pool's rows, the data devices and those of the cache in one list
use Rattle.std.specs.Prelude.{ℕ, ◌+◌, ◌-◌, ◌==◌, min, List, [], ◌∷◌, ◌++◌, if◌then◌else◌}
use Rattle.st_units.specs.declared.rows.DevRow.{DevRow}
use Rattle.st_units.specs.declared.rows.Segment.{Segment}
use Rattle.st_units.specs.declared.rows.Tier.{Tier}
use Rattle.st_units.specs.declared.rows.Tier.TheVariants.{DataTier, CacheTier}
use Rattle.st_limits.specs.Sums.{usable_blocks}
use Rattle.st_datatier.specs.Tier.{first_block_of}

-- the sectors of the data devices, in order
abbrev pub data_sectors : List DevRow → List ℕ
data_sectors [] = []
data_sectors (row ∷ rows) = own row.tier row.sectors ++ data_sectors rows
  where
    own : Tier → ℕ → List ℕ
    own DataTier sectors = sectors ∷ []
    own CacheTier sectors = []

-- how many of the next n blocks the device in row `at` has
abbrev pub share : ℕ → DevRow → ℕ → ℕ
share at row n = of_tier row.tier
  where
    of_tier : Tier → ℕ
    of_tier DataTier = min n (usable_blocks row.sectors - first_block_of at)
    of_tier CacheTier = 0

-- so many blocks of the device in row `at`, as a segment; none where they are none
abbrev pub segment_at : ℕ → ℕ → List Segment
segment_at at blocks = if blocks == 0 then [] else (record { dev = at; first = first_block_of at; blocks = blocks }) ∷ []

-- the first n data blocks of these rows, which are numbered from `at` on: a segment a data device, in order, until there is none left
abbrev pub segment_rows : ℕ → ℕ → List DevRow → List Segment
segment_rows at n [] = []
segment_rows at n (row ∷ rows) = segment_at at (share at row n) ++ segment_rows (at + 1) (n - share at row n) rows
