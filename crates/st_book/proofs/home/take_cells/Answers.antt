use Rattle.std.proofs.Common.{◌<◌, length, arith}
use Rattle.st_wants.specs.Wants.{writes}
use Rattle.st_book.specs.inner.Sorting.{TakesOrPasses}
use Rattle.st_book.proofs.Sorting.{item_at, sorted_step, divided_step, counted_step}
use Rattle.st_book.proofs.home.take_cells.Goals as goal

pub loop-preserved : goal.loop-preserved
loop-preserved g c =
    let cells = c.loop.cells.items in
    let part = c.loop.part.items in
    let few = c.loop.invariant.divided.count in
    let inside : c.loop.i < length cells = omega (arith, c.loop.invariant.counted, few) in
    let own = item_at cells c.loop.i inside in
    let step : TakesOrPasses (writes c.args.want.now (g.C.Cell.state own.0).name) own.0 c.loop.i cells c.take_or_pass-i.new.cells.items part c.take_or_pass-i.new.part.items c.take_or_pass-i.result = rw own.1 at c.take_or_pass-i.ensures.cell in
    record {
      counted = counted_step cells part _ _ c.loop.i _ _ own.0 _ step c.loop.invariant.counted;
      places = omega arith;
      part_places = omega arith;
      sorted = sorted_step g.C.Cell.state c.args.want.now _ cells part _ _ c.loop.i _ own.0 own.1 step c.loop.invariant.sorted;
      divided = divided_step g.C.Cell.is_kept g.C.Cell.fault_count _ cells part _ _ c.loop.i _ own.0 _ own.1 step c.loop.invariant.divided;
    }
