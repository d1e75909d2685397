use Rattle.st_meant.proofs.Tabling.{can_may, tables_tell}
use Rattle.st_meant.proofs.laws.tables_of_a_start.Goals as goal

pub returns-clause-may : goal.returns-clause-may
returns-clause-may c = can_may c.tells_as_the_model.ensures c.tells_of_each_pool.ensures.pools c.tells_of_each_pool.ensures.users c.changes_as_the_model.ensures.dropped

pub returns-clause-tell : goal.returns-clause-tell
returns-clause-tell c = tables_tell c.tells_of_each_pool.ensures.pools c.changes_as_the_model.ensures.dropped c.changes_as_the_model.ensures.put c.keeps_as_the_model.ensures.kept
