use Rattle.st_parting.proofs.Parting.{lie_apart}
use Rattle.st_parting.proofs.laws.pools_lie_apart.Goals as goal

pub returns : goal.returns
returns c = lie_apart
