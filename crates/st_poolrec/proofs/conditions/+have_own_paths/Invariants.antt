use Rattle.std.proofs.Common.{length}
use Rattle.st_poolrec.proofs.conditions.+have_own_paths.Given as goal

abbrev pub decreases-have_own_paths : goal.decreases-have_own_paths
decreases-have_own_paths l = length l.devs.now
