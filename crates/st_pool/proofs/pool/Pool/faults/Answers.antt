use Rattle.std.proofs.Common.{◌≤◌, ap, subst}
use Rattle.st_pool.specs.View.{PoolView}
use Rattle.st_pool.proofs.pool.Pool.faults.Goals as goal

pub returns-clause-count : goal.returns-clause-count
returns-clause-count g c = ap (λ (v : PoolView _). v.faults) c.self.view_is

pub returns-clause-most : goal.returns-clause-most
returns-clause-most g c = subst (λ (v : PoolView _). c.self.inside.faults ≤ g.R.Rack.faults v.rack) c.self.view_is c.self.invariant.count_is
