use Rattle.st_outcomes.proofs.Told.{started, unstarted}
use Rattle.st_outcomes.proofs.the_table_tells.Goals as goal

pub returns-clause-unstarted : goal.returns-clause-unstarted
returns-clause-unstarted c = unstarted c.tells_of_each_pool.ensures.pools

pub returns-clause-started : goal.returns-clause-started
returns-clause-started c = started c.tells_of_each_pool.ensures.pools
