use Rattle.std.proofs.Common.{Some, sym, ap, subst}
use Rattle.st_pool.specs.Known.{IsPool}
use Rattle.st_pool.specs.View.{view_of}
use Rattle.st_pool.proofs.pool.standing.Goals as goal

pub invariant_of-result : goal.invariant_of-result
invariant_of-result g c =
    let a = c.args in
    subst (λ (r : _). IsPool g.R.Rack.devs g.R.Rack.moment g.R.Rack.state_at g.R.Rack.faults a.books a.flight a.devs a.infos.own (Some a.infos.spare) a.rack r a.faults) (sym c.of-seen.ensures) c.requires

pub returns : goal.returns
returns g c = ap (λ (r : _). view_of g.R.Rack.moment g.R.Rack.state_at c.args.books c.args.flight _ c.args.rack r c.args.faults) c.of-seen.ensures
