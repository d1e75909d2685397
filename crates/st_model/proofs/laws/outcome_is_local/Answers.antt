use Rattle.st_model.proofs.LocalCalls.{outcome-local}
use Rattle.st_model.proofs.laws.outcome_is_local.Goals as goal

pub returns : goal.returns
returns c = outcome-local
