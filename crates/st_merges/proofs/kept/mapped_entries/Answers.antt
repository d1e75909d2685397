use Rattle.std.proofs.Common.{rules}
use Rattle.st_merges.proofs.Sifted.{kept_none, kept_on}
use Rattle.st_merges.proofs.kept.mapped_entries.Goals as goal

pub loop-cell-init : goal.loop-cell-init
loop-cell-init c =
    kept_none c.args.filesystems.now c.make-kept.result c.into_iter-cell-iterator.result c.args.cells.now (search rules) (search rules) c.iter-cell-items.ensures.rising

pub loop-cell-preserved-in_ok-insert : goal.loop-cell-preserved-in_ok-insert
loop-cell-preserved-in_ok-insert c =
    kept_on c.args.filesystems.now c.in-Some.cell.now c.in-Some.bytes.now c.loop-cell.kept c.loop-cell.cell-iterator c.next.new.self c.insert.new.self c.args.cells.now
    (search rules) (search rules) (search rules) c.loop-cell.invariant
