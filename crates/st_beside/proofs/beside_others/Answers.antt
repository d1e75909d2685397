use Rattle.st_beside.proofs.Beside.{destroyed_beside, renamed_beside, stopped_beside}
use Rattle.st_beside.proofs.beside_others.Goals as goal

pub returns-clause-destroyed : goal.returns-clause-destroyed
returns-clause-destroyed c = destroyed_beside c.keeps_as_the_model.ensures.steps

pub returns-clause-stopped : goal.returns-clause-stopped
returns-clause-stopped c = stopped_beside c.keeps_as_the_model.ensures.steps

pub returns-clause-renamed : goal.returns-clause-renamed
returns-clause-renamed c = renamed_beside c.keeps_as_the_model.ensures.steps
