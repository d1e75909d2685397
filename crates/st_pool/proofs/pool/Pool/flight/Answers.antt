use Rattle.std.proofs.Common.{Option, sym, ◌∙◌, ap}
use Rattle.st_model.specs.declared.call.Call.{Call}
use Rattle.st_pool.specs.View.{PoolView, mode_with}
use Rattle.st_pool.proofs.pool.Pool.flight.Goals as goal

pub returns : goal.returns
returns g c = sym (ap (λ (v : PoolView _). v.pool.mode) c.self.view_is) ∙ sym (ap (λ (o : Option Call). mode_with o) c.as_ref.ensures.value)
