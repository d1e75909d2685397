use Rattle.st_model.proofs.StepLocal.{step-local}
use Rattle.st_model.proofs.laws.step_is_local.Goals as goal

pub returns : goal.returns
returns c = step-local
