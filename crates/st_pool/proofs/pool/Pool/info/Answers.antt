use Rattle.std.proofs.Common.{◌≡◌, true, false, is_some, Option, Some, None, refl, sym, ◌∙◌, ap, subst}
use Rattle.std.specs.Prelude.{IfSome, IfNone}
use Rattle.st_model.specs.declared.info.PoolInfo.{PoolInfo}
use Rattle.st_model.specs.Shown.{pool_info}
use Rattle.st_pool.specs.View.{PoolView, view_of}
use Rattle.st_pool.proofs.Commits.{pool_spent}
use Rattle.st_pool.proofs.pool.Pool.info.Goals as goal

some_is : (o : Option PoolInfo) (p : PoolInfo) → IfSome o (λ i. i ≡ p) → IfSome o (λ i. (is_some o ≡ true) × (i ≡ p))
some_is None p is = tt
some_is (Some i) p is = (refl, is)

none_is : (o : Option PoolInfo) → IfNone o (is_some o ≡ false)
none_is None = refl
none_is (Some i) = tt

pub invariant_of-self : goal.invariant_of-self
invariant_of-self g c =
    let x = c.self.inside in
    pool_spent g.R.Rack.devs g.R.Rack.moment g.R.Rack.state_at g.R.Rack.faults x.books x.devs x.shown x.spare x.rack x.seen.value x.faults x.flight c.self.invariant c.take.new.self c.take.ensures.after

pub returns-clause-some : goal.returns-clause-some
returns-clause-some g c =
    let x = c.self.inside in
    let view : PoolView _ = view_of g.R.Rack.moment g.R.Rack.state_at x.books x.flight (is_some x.spare) x.rack x.seen.value x.faults in
    subst (λ (v : PoolView _). IfSome c.take.result (λ i. (v.spare ≡ true) × (i ≡ pool_info v.pool))) c.self.view_is
    (subst (λ (o : Option PoolInfo). IfSome o (λ i. (is_some x.spare ≡ true) × (i ≡ pool_info view.pool))) (sym c.take.ensures.value) (some_is x.spare (pool_info view.pool) c.self.invariant.is_on.spare_info))

pub returns-clause-none : goal.returns-clause-none
returns-clause-none g c =
    let x = c.self.inside in
    subst (λ (v : PoolView _). IfNone c.take.result (v.spare ≡ false)) c.self.view_is
    (subst (λ (o : Option PoolInfo). IfNone o (is_some x.spare ≡ false)) (sym c.take.ensures.value) (none_is x.spare))

pub returns-clause-spent : goal.returns-clause-spent
returns-clause-spent g c =
    let x = c.self.inside in
    ap (λ (o : Option PoolInfo). view_of g.R.Rack.moment g.R.Rack.state_at x.books x.flight (is_some o) x.rack x.seen.value x.faults) c.take.ensures.after
    ∙ ap (λ (v : PoolView _). record v { spare = false }) c.self.view_is
