use Rattle.st_leaving.proofs.Leaving.{one_gone}
use Rattle.st_leaving.proofs.laws.one_has_gone.Goals as goal

pub returns : goal.returns
returns g c = one_gone _ _ _ _ c.the_started_pools.ensures.taken c.the_started_pools.ensures.dropped c.the_started_pools.ensures.each
