use Rattle.std.proofs.Common.{sym, subst}
use Rattle.st_lent.specs.Lent.{HasWoken, LentView}
use Rattle.st_lent.proofs.Waking.{holds_woken}
use Rattle.st_lent.proofs.lent.Lent.woken.Goals as goal

pub invariant_of-result : goal.invariant_of-result
invariant_of-result g c =
    let R = g.R.Rack in let b = c.self.inside in
    holds_woken R.devs R.moment R.state_at R.faults R.spare b.out b.table b.free b.halted b.past b.state.value c.args.state.value c.self.invariant c.keeps_as_the_model.ensures.steps
    (subst (λ (v : LentView _). HasWoken v.state c.args.state.value v.out) (sym c.self.view_is) c.requires.woken) c.args.table c.requires.table
