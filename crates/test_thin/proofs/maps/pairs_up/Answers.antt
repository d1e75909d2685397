use Rattle.st_thinmap.specs.Thin.{AgreesWith}
use Rattle.test_thin.proofs.Rows.{one_more}
use Rattle.test_thin.proofs.maps.pairs_up.Goals as goal

pub loop-i-preserved : goal.loop-i-preserved
loop-i-preserved c = one_more (AgreesWith c.args.mapping) c.args.map.now.rows c.loop-i.i c.row.result c.row.ensures (c.pair_up.ensures (cc)) c.loop-i.invariant
