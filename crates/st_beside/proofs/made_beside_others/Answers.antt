use Rattle.st_beside.proofs.Making.{made_beside}
use Rattle.st_beside.proofs.made_beside_others.Goals as goal

pub returns : goal.returns
returns c = made_beside
