use Rattle.st_history.proofs.Own.{own_tells}
use Rattle.st_history.proofs.laws.own_events_tell.Goals as goal

pub returns : goal.returns
returns c = own_tells
