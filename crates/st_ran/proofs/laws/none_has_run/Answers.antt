use Rattle.st_ran.proofs.One.{none_ran}
use Rattle.st_ran.proofs.laws.none_has_run.Goals as goal

pub returns : goal.returns
returns g c = none_ran _ _ _ _ c.the_started_pools.ensures.each
