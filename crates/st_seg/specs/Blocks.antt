-- usable blocks of devices, and segments of them
use Rattle.std.specs.Prelude.{ℕ, ◌+◌, ◌^◌, ◌<◌, ◌≤◌, ◌≢◌, List, map}
use Rattle.std.specs.List.{AllPairs, flat_map, range_with_len}
use Rattle.st_units.specs.declared.rows.Segment.{Segment}

-- a block: the number of its device, and its own among the usable blocks of that device
abbrev pub Block : Type 0
Block = ℕ × ℕ

-- n blocks of a device from its block `first` on, rising
unfoldable pub blocks_from : ℕ → ℕ → ℕ → List Block
blocks_from dev first n = map (λ block. (dev, block)) (range_with_len first n)

-- the blocks of a segment
abbrev pub blocks_in : Segment → List Block
blocks_in s = blocks_from s.dev s.first s.blocks

-- the blocks of segments, in order
abbrev pub blocks_of : List Segment → List Block
blocks_of segments = flat_map blocks_in segments

-- a segment has a block, and the numbers of its device and of its blocks fit 16 and 32 bits
abbrev pub IsSegment : Segment → Type 0
IsSegment s = (s.dev < 2 ^ 16) × (0 < s.blocks) × (s.first + s.blocks ≤ 2 ^ 32)

-- no block stands twice
abbrev pub NoneTwice : List Block → Type 0
NoneTwice blocks = AllPairs (λ x y. x ≢ y) blocks
