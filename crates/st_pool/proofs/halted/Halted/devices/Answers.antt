use Rattle.std.proofs.Common.{ap}
use Rattle.st_pool.specs.Halts.{HaltedView}
use Rattle.st_pool.proofs.halted.Halted.devices.Goals as goal

pub returns : goal.returns
returns g c = ap (λ (v : HaltedView _). v.devs) c.self.view_is
