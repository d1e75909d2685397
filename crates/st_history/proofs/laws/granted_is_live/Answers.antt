use Rattle.st_history.proofs.Held.{live-in_log}
use Rattle.st_history.proofs.laws.granted_is_live.Goals as goal

pub returns : goal.returns
returns c = live-in_log
