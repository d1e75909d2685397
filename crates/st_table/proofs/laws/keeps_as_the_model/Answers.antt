use Rattle.st_table.proofs.Followed.{kept_alike, steps_put}
use Rattle.st_table.proofs.laws.keeps_as_the_model.Goals as goal

pub returns-clause-kept : goal.returns-clause-kept
returns-clause-kept c = kept_alike

pub returns-clause-steps : goal.returns-clause-steps
returns-clause-steps c = steps_put
