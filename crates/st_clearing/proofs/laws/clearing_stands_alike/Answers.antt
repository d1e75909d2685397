use Rattle.st_clearing.proofs.Alike.{stands-alike}
use Rattle.st_clearing.proofs.laws.clearing_stands_alike.Goals as goal

pub returns : goal.returns
returns c = stands-alike
