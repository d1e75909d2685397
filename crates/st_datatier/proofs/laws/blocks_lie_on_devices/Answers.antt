use Rattle.st_datatier.proofs.Devices.{lies_on}
use Rattle.st_datatier.proofs.laws.blocks_lie_on_devices.Goals as goal

pub returns : goal.returns
returns c = lies_on
