use Rattle.st_leaving.proofs.Leaving.{one_stopped}
use Rattle.st_leaving.proofs.laws.one_has_stopped.Goals as goal

pub returns : goal.returns
returns g c = one_stopped _ _ _ _ c.the_started_pools.ensures.taken c.the_started_pools.ensures.halted c.the_started_pools.ensures.each
