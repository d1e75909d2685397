use Rattle.st_step.proofs.Refusals.{refusals-keep}
use Rattle.st_step.proofs.laws.refusals_change_nothing.Goals as goal

pub returns : goal.returns
returns c = refusals-keep
