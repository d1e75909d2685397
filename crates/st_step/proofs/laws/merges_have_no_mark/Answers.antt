use Rattle.st_step.proofs.Merges.{none-marked}
use Rattle.st_step.proofs.laws.merges_have_no_mark.Goals as goal

pub returns : goal.returns
returns c = none-marked
