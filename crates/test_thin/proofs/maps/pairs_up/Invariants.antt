use Rattle.st_thinmap.specs.Thin.{AgreesWith}
use Rattle.test_thin.proofs.Rows.{Before}
use Rattle.test_thin.proofs.maps.pairs_up.Given as goal

abbrev pub invariant-loop-i : goal.invariant-loop-i
invariant-loop-i l = Before (AgreesWith l.mapping) l.map.rows l.i
