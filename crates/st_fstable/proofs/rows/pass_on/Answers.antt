use Rattle.st_fstable.specs.Rows.{passed_on}
use Rattle.std.proofs.lemmas.List.Edits.{map_over_more}
use Rattle.st_fstable.proofs.rows.pass_on.Goals as goal

pub loop-row-preserved : goal.loop-row-preserved
loop-row-preserved c = rw (c.pass_on_row.ensures, ← c.row-item.is) (map_over_more (passed_on c.args.gone.now) _ _ _ _ c.loop-row-test.true c.loop-row.invariant c.row-item.is)
