use Rattle.st_step.proofs.Merges.{own-merge}
use Rattle.st_step.proofs.laws.merges_are_their_own.Goals as goal

pub returns : goal.returns
returns c = own-merge
