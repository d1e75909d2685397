use Rattle.std.proofs.Common.{◌≡◌, ℕ, suc, ◌+◌, ◌*◌, ◌^◌, ◌≤◌, length, take, ◌∙◌, ap, arith}
use Rattle.st_seg.specs.Blocks.{blocks_of}
use Rattle.st_told.proofs.Small.{one_segment}
use Rattle.st_told.proofs.telling.allocated_in.Goals as goal

pub loop-i-preserved : goal.loop-i-preserved
loop-i-preserved c =
    let segments = c.args.segments.now in
    let i = c.loop-i.i in
    let after : suc i ≡ i + 1 = omega arith in
    record {
      sum = (λ j. c.loop-i.invariant.sum j + c.count_blocks-blocks.ensures.value j) ∙ one_segment segments i c.at.result.now c.at.ensures ∙ ap (λ (k : ℕ). length (blocks_of (take k segments))) after;
      small = omega (arith, c.loop-i.invariant.small, c.count_blocks-blocks.ensures.small);
    }
