use Rattle.std.proofs.Common.{length}
use Rattle.st_flexlog.proofs.rows.+blocks_rise.Given as goal

abbrev pub decreases-blocks_rise : goal.decreases-blocks_rise
decreases-blocks_rise l = length l.rows.now
