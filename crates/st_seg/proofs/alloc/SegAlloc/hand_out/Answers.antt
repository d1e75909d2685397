use Rattle.st_seg.specs.Blocks.{blocks_of}
use Rattle.st_seg.proofs.Taking.{taking_is}
use Rattle.st_seg.proofs.alloc.SegAlloc.hand_out.Goals as goal

pub returns : goal.returns
returns c = taking_is c.self.inside.taken c.args.blocks (blocks_of c.self.inside.ranges.items) _ c.self.view_is
