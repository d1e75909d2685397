use Rattle.std.proofs.Common.{length, sym, subst, ap, arith}
use Rattle.std.proofs.lemmas.List.{length-append}
use Rattle.std.proofs.lemmas.List.Elements.{All-push}
use Rattle.st_units.specs.declared.rows.Segment.{Segment}
use Rattle.st_seg.specs.Blocks.{IsSegment, NoneTwice, blocks_in, blocks_of}
use Rattle.st_seg.proofs.Parts.{length-blocks_from}
use Rattle.st_seg.proofs.Adding.{still_new, few_with_more, blocks_of-push}
use Rattle.st_seg.proofs.alloc.SegAlloc.add.Goals as goal

pub overflow_add-self : goal.overflow_add-self
overflow_add-self c =
    let s : Segment = record { dev = c.args.dev; first = c.args.first; blocks = c.args.blocks } in
    let ranges = c.self.inside.ranges.items in
    let new = still_new c.self.inside.taken (blocks_of ranges) (blocks_in s) _ c.self.view_is c.requires.new in
    omega (arith, few_with_more ranges s c.self.invariant.2 (omega arith, c.requires.some, c.requires.within) new)

pub invariant_of-self-2 : goal.invariant_of-self-2
invariant_of-self-2 c =
    let s : Segment = record { dev = c.args.dev; first = c.args.first; blocks = c.args.blocks } in
    let ranges = c.self.inside.ranges.items in
    let new = still_new c.self.inside.taken (blocks_of ranges) (blocks_in s) _ c.self.view_is c.requires.new in
    let e = blocks_of-push ranges s in
    rw c.in_ok-push.ensures.items (
      omega arith,
      omega (arith, ap length e, length-append (blocks_of ranges) (blocks_in s), length-blocks_from s.dev s.first s.blocks),
      All-push IsSegment ranges s c.self.invariant.2 (omega arith, c.requires.some, c.requires.within),
      subst NoneTwice (sym e) new,
    )
