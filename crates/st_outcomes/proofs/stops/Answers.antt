use Rattle.st_outcomes.proofs.Stopping.{halts_told, stop_outcomes, stops_as}
use Rattle.st_outcomes.proofs.stops.Goals as goal

pub returns-clause-outcomes : goal.returns-clause-outcomes
returns-clause-outcomes c = stop_outcomes c.keeps_as_the_model.ensures.steps

pub returns-clause-stays : goal.returns-clause-stays
returns-clause-stays c = stops_as

pub returns-clause-told : goal.returns-clause-told
returns-clause-told c = halts_told c.keeps_as_the_model.ensures.kept c.changes_as_the_model.ensures.dropped c.changes_as_the_model.ensures.put c.tells_of_each_pool.ensures.pools c.keeps_as_the_model.ensures.steps
