use Rattle.st_creating.proofs.Told.{told_alike}
use Rattle.st_creating.proofs.laws.answers_as_the_model.Goals as goal

pub returns : goal.returns
returns c = told_alike c.tells_as_the_model.ensures c.tells_of_each_pool.ensures.users
