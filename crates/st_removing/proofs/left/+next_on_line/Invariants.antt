use Rattle.std.proofs.Common.{length}
use Rattle.st_removing.proofs.left.+next_on_line.Given as goal

abbrev pub decreases-next_on_line : goal.decreases-next_on_line
decreases-next_on_line l = length l.filesystems.now
