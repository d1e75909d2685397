use Rattle.std.proofs.Common.{◌<◌, arith}
use Rattle.st_thinmap.specs.declared.mapping.Mapping.{Mapping}
use Rattle.test_thin.proofs.Rows.{one_more}
use Rattle.test_thin.proofs.maps.all_below.Goals as goal

pub loop-i-preserved : goal.loop-i-preserved
loop-i-preserved c = one_more (λ (m : Mapping). m.fs < c.args.fs) c.args.map.now.rows c.loop-i.i c.row.result c.row.ensures (omega arith) c.loop-i.invariant
