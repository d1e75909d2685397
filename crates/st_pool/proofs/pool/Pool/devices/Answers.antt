use Rattle.std.proofs.Common.{◌≡◌, sym, subst}
use Rattle.st_image.specs.Bears.{paths}
use Rattle.st_image.specs.Kept.{in_use}
use Rattle.st_pool.specs.View.{PoolView}
use Rattle.st_pool.proofs.pool.Pool.devices.Goals as goal

pub returns : goal.returns
returns g c = subst (λ (v : PoolView _). c.self.inside.devs ≡ paths (in_use v.pool (g.R.Rack.devs v.rack))) c.self.view_is (sym c.self.invariant.is_on.on)
