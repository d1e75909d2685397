use Rattle.std.proofs.Common.{refl, arith}
use Rattle.st_linear.proofs.Runs.{AreRuns-append, next_fits, blocks_pushed, next_pushed}
use Rattle.st_linear.proofs.table.runs_from.Goals as goal

pub overflow_add-next : goal.overflow_add-next
overflow_add-next c =
    let i = c.loop-segment.invariant in
    omega (arith, c.requires.fits, next_fits c.args.segments.now c.loop-segment.segment-index _ (omega arith) c.loop-segment.runs.items i.blocks c.loop-segment.next c.args.start c.from-next.result i.next c.from-next.ensures)

pub loop-segment-preserved : goal.loop-segment-preserved
loop-segment-preserved c =
    let i = c.loop-segment.invariant in
    rw c.in_ok-push.ensures.items (record {
      runs = AreRuns-append c.args.start c.loop-segment.runs.items _ i.runs (i.next, c.requires.segments c.loop-segment.segment-index _ (omega arith), tt);
      blocks = blocks_pushed c.args.segments.now c.loop-segment.segment-index _ _ (omega arith) refl c.loop-segment.runs.items i.blocks;
      next = next_pushed c.loop-segment.runs.items _ c.loop-segment.next c.args.start c.from-next.result i.next c.from-next.ensures;
    })
