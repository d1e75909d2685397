use Rattle.std.proofs.Common.{length}
use Rattle.st_filesystems.proofs.new.+distinct_specs.Given as goal

abbrev pub decreases-distinct_specs : goal.decreases-distinct_specs
decreases-distinct_specs l = length l.specs.now
