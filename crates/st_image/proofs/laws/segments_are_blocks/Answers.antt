use Rattle.st_image.proofs.SegmentBlocks.{segment_blocks}
use Rattle.st_image.proofs.laws.segments_are_blocks.Goals as goal

pub returns : goal.returns
returns c = segment_blocks 0
