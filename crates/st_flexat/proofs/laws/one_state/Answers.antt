use Rattle.st_flexat.proofs.Once.{said_once}
use Rattle.st_flexat.proofs.laws.one_state.Goals as goal

pub returns : goal.returns
returns c = said_once
