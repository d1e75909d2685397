use Rattle.std.proofs.Common.{ℕ, ◌≤◌, subst}
use Rattle.st_onestart.proofs.Starting.{starts_alone}
use Rattle.st_pool.proofs.Waked.{left_alone}
use Rattle.st_pool.proofs.vanishing.untouched.Goals as goal

pub returns : goal.returns
returns g c =
    λ pool halts can. left_alone g.R.Rack.devs g.R.Rack.moment g.R.Rack.state_at g.R.Rack.faults starts_alone pool c.args.halted halts can
    (subst (λ (n : ℕ). n ≤ g.R.Rack.faults c.args.halted.rack) c.faults-faults.ensures.count c.faults-faults.ensures.most)
