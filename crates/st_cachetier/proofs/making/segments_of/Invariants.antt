use Rattle.std.proofs.Common.{◌≡◌, take}
use Rattle.std.specs.List.{All}
use Rattle.st_seg.specs.Blocks.{IsSegment, blocks_of}
use Rattle.st_cachetier.specs.Tier.{row_blocks}
use Rattle.st_cachetier.proofs.making.segments_of.Given as goal

abbrev pub invariant-loop-i : goal.invariant-loop-i
invariant-loop-i l = record {
  blocks : blocks_of l.segments ≡ row_blocks (take l.i l.rows);
  each : All IsSegment l.segments;
}
