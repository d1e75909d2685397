use Rattle.st_rack.specs.Tagged.{tagged}
use Rattle.st_rack.proofs.Left.{before_cut}
use Rattle.st_rack.proofs.laws.left_after_cycle.Goals as goal

pub returns : goal.returns
returns g c = λ tag old new image cut fair. before_cut (g.R.Rack.devs c.args.rack.now) (tagged tag) old new image cut fair
