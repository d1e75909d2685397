use Rattle.std.proofs.Common.{arith}
use Rattle.st_thinmap.specs.Thin.{with_fs}
use Rattle.std.proofs.Common.{◌∙◌}
use Rattle.st_thinmap.proofs.Copying.{copied_more, tied_more}
use Rattle.st_thinmap.proofs.copies.copy_rows.Goals as goal

pub loop-i-preserved : goal.loop-i-preserved
loop-i-preserved c =
    let i = c.loop-i.invariant in
    let old = c.args.rows.now.items in
    let row = c.index-row.result.now in
    record {
      rows = c.push_row.ensures.rows ∙ copied_more old c.loop-i.rows.items c.args.start c.loop-i.i c.args.fs row c.loop-i.auto.i (omega (arith, c.args.rows.now.ok.0, c.requires.within, c.loop-i-test.true)) i.rows c.index-row.ensures;
      tied = tied_more c.loop-i.uses.items c.raise.new.uses.items c.loop-i.rows.items c.push_row.new.rows.items (with_fs c.args.fs row) i.tied c.push_row.ensures.rows c.raise.ensures.table c.raise.ensures.counts;
      len = omega (arith, i.len, c.push_row.ensures.len, c.loop-i.auto.i);
      capacity = omega (arith, i.capacity, c.push_row.ensures.capacity);
    }
