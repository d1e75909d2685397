use Rattle.st_table.proofs.Followed.{added_alike, dropped_alike, put_alike}
use Rattle.st_table.proofs.Placed.{same_alike, placed_alike}
use Rattle.st_table.proofs.laws.changes_as_the_model.Goals as goal

pub returns-clause-added : goal.returns-clause-added
returns-clause-added c = added_alike

pub returns-clause-dropped : goal.returns-clause-dropped
returns-clause-dropped c = dropped_alike

pub returns-clause-put : goal.returns-clause-put
returns-clause-put c = put_alike

pub returns-clause-same : goal.returns-clause-same
returns-clause-same c = same_alike

pub returns-clause-placed : goal.returns-clause-placed
returns-clause-placed c = placed_alike
