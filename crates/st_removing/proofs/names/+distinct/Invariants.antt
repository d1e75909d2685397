use Rattle.std.proofs.Common.{length}
use Rattle.st_removing.proofs.names.+distinct.Given as goal

abbrev pub decreases-distinct : goal.decreases-distinct
decreases-distinct l = length l.names.now
