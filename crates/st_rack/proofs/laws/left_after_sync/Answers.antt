use Rattle.st_rack.specs.Tagged.{tagged}
use Rattle.st_rack.proofs.Left.{before_sync}
use Rattle.st_rack.proofs.laws.left_after_sync.Goals as goal

pub returns : goal.returns
returns g c = λ tag old new image step fair. before_sync (g.R.Rack.devs c.args.rack.now) (tagged tag) old new image c.args.dev.now step fair
