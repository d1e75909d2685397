use Rattle.std.proofs.Common.{length}
use Rattle.st_flexrec.proofs.merges.+merge_apart.Given as goal

abbrev pub decreases-merge_apart : goal.decreases-merge_apart
decreases-merge_apart l = length l.rows.now
