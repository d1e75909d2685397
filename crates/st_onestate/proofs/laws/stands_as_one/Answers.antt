use Rattle.st_onestate.proofs.Once.{state_once}
use Rattle.st_onestate.proofs.laws.stands_as_one.Goals as goal

pub returns : goal.returns
returns c = state_once
