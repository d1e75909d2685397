use Rattle.st_linear.proofs.Devices.{devices_apart}
use Rattle.st_linear.proofs.laws.devices_apart.Goals as goal

pub returns : goal.returns
returns c = λ dev sectors. devices_apart sectors dev
