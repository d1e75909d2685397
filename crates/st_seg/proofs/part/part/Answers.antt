use Rattle.std.proofs.Common.{arith, option_to_list}
use Rattle.std.proofs.lemmas.List.Elements.{All-append}
use Rattle.st_seg.specs.Blocks.{IsSegment}
use Rattle.st_seg.proofs.Taking.{part_step, All-option}
use Rattle.st_seg.proofs.part.part.Goals as goal

pub loop-range-preserved : goal.loop-range-preserved
loop-range-preserved c =
    rw (c.in_ok-put.ensures, c.saturating_sub-left.ensures, c.saturating_sub.ensures, c.saturating_sub-skip.ensures, c.from-blocks.ensures) (record {
      blocks = part_step c.args.ranges.now c.loop-range.range-index _ (omega arith) c.loop-range.segments (option_to_list c.clip.result) c.loop-range.left c.loop-range.skip _ c.clip.ensures.blocks c.loop-range.invariant.blocks;
      segments = All-append IsSegment _ _ c.loop-range.invariant.segments (All-option c.clip.result c.clip.ensures.segment);
    })
