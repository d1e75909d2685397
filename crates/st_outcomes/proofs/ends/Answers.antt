use Rattle.st_outcomes.proofs.Ending.{destroy_outcomes, ends_unseen}
use Rattle.st_outcomes.proofs.ends.Goals as goal

pub returns-clause-outcomes : goal.returns-clause-outcomes
returns-clause-outcomes c = destroy_outcomes c.beside_others.ensures.destroyed

pub returns-clause-unseen : goal.returns-clause-unseen
returns-clause-unseen c = ends_unseen
