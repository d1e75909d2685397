use Rattle.st_grants.proofs.Once as once
use Rattle.st_grants.proofs.laws.each_ticket_once.Goals as goal

pub returns : goal.returns
returns c = record {
  granted_once = once.granted_once;
  granted_after = once.granted_after;
  released_once = once.released_once;
  released_after = once.released_after;
}
