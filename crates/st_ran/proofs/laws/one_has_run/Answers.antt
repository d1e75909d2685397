use Rattle.st_ran.proofs.One.{one_ran}
use Rattle.st_ran.proofs.laws.one_has_run.Goals as goal

pub returns : goal.returns
returns g c = one_ran _ _ _ _ c.the_started_pools.ensures.taken c.the_started_pools.ensures.started c.the_started_pools.ensures.each
