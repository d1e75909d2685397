use Rattle.st_history.proofs.Held.{logs-agree}
use Rattle.st_history.proofs.laws.logs_agree_on_held.Goals as goal

pub returns : goal.returns
returns c = logs-agree
