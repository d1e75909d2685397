-- all blocks of several devices
use Rattle.std.specs.Prelude.{ℕ, ◌+◌, List, [], ◌∷◌, ◌++◌}
use Rattle.st_limits.specs.Sums.{usable_blocks}
use Rattle.st_seg.specs.Blocks.{Block, blocks_from}

-- the usable blocks of devices of these sectors, in order; the first of them has the number `dev`
abbrev pub blocks_of_devices : ℕ → List ℕ → List Block
blocks_of_devices dev [] = []
blocks_of_devices dev (sectors ∷ more) = blocks_from dev 0 (usable_blocks sectors) ++ blocks_of_devices (dev + 1) more
