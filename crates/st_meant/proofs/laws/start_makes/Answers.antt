use Rattle.st_meant.proofs.Starting.{start_makes}
use Rattle.st_meant.proofs.laws.start_makes.Goals as goal

pub returns : goal.returns
returns c = start_makes
