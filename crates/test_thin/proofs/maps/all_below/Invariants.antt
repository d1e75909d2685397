use Rattle.std.proofs.Common.{◌<◌}
use Rattle.st_thinmap.specs.declared.mapping.Mapping.{Mapping}
use Rattle.test_thin.proofs.Rows.{Before}
use Rattle.test_thin.proofs.maps.all_below.Given as goal

abbrev pub invariant-loop-i : goal.invariant-loop-i
invariant-loop-i l = Before (λ (m : Mapping). m.fs < l.fs) l.map.rows l.i
