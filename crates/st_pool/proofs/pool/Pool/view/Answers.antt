use Rattle.std.proofs.Common.{◌∙◌, ap, subst}
use Rattle.st_model.specs.Shown.{pool_info}
use Rattle.st_image.specs.Kept.{Kept}
use Rattle.st_pool.specs.View.{PoolView}
use Rattle.st_pool.proofs.Running.{kept_now}
use Rattle.st_pool.proofs.pool.Pool.view.Goals as goal

pub returns-clause-shown : goal.returns-clause-shown
returns-clause-shown g c = c.value.ensures ∙ c.self.invariant.is_on.info ∙ ap (λ (v : PoolView _). pool_info v.pool) c.self.view_is

pub returns-clause-kept : goal.returns-clause-kept
returns-clause-kept g c =
    let x = c.self.inside in
    let M = g.R.Rack.moment in
    let S = g.R.Rack.state_at in
    subst (λ (v : PoolView _). Kept v.pool (g.R.Rack.devs v.rack) (S v.rack (M v.rack))) c.self.view_is
    (kept_now g.R.Rack.devs M S g.R.Rack.faults x.books x.flight x.devs x.shown x.spare x.rack x.seen.value x.faults c.self.invariant)
