use Rattle.std.proofs.Common.{◌≡◌, ◌++◌, take, drop}
use Rattle.std.specs.List.{All}
use Rattle.st_seg.specs.Blocks.{IsSegment, blocks_of}
use Rattle.st_seg.proofs.part.part.Given as goal

abbrev pub invariant-loop-range : goal.invariant-loop-range
invariant-loop-range l = record {
  blocks : blocks_of l.segments ++ take l.left (drop l.skip (blocks_of (drop l.range-index l.ranges))) ≡ take l.count (drop l.initial.skip (blocks_of l.ranges));
  segments : All IsSegment l.segments;
}
