use Rattle.st_clearing.proofs.Emptied.{cleared-empty}
use Rattle.st_clearing.proofs.laws.cleared_devices_are_empty.Goals as goal

pub returns : goal.returns
returns c = cleared-empty
