use Rattle.std.proofs.Common.{length}
use Rattle.st_flexlog.proofs.rows.+cells_follow.Given as goal

abbrev pub decreases-cells_follow : goal.decreases-cells_follow
decreases-cells_follow l = length l.rows.now
