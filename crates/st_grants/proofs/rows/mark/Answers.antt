use Rattle.st_wants.specs.Lock.{marked}
use Rattle.std.proofs.lemmas.List.Edits.{map_over_more}
use Rattle.st_grants.proofs.rows.mark.Goals as goal

pub loop-row-preserved : goal.loop-row-preserved
loop-row-preserved c = rw (c.mark_row.ensures, ← c.row-item.is) (map_over_more (marked c.args.ticket) _ _ _ _ c.loop-row-test.true c.loop-row.invariant c.row-item.is)
