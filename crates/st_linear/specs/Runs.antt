-- the segments of a table with the number of the first block of each
use Rattle.std.specs.Prelude.{◌≡◌, ℕ, ◌+◌, List, [], ◌∷◌, flat_map}
use Rattle.st_seg.specs.Blocks.{Block, IsSegment, blocks_in}
use Rattle.st_linear.specs.declared.table.Run.{Run}

-- the blocks of the runs, in order
abbrev pub blocks_of_runs : List Run → List Block
blocks_of_runs runs = flat_map (λ run. blocks_in run.segment) runs

-- each run begins where the one before it ends, the first at `start`
abbrev pub AreRuns : ℕ → List Run → Type 0
AreRuns start [] = Unit {0}
AreRuns start (run ∷ runs) = (run.start ≡ start) × IsSegment run.segment × AreRuns (start + run.segment.blocks) runs
