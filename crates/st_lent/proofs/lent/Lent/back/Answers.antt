use Rattle.std.proofs.Common.{sym, subst}
use Rattle.st_lent.specs.Lent.{IsTheOne, LentView}
use Rattle.st_lent.proofs.Back.{holds_back, place_kept}
use Rattle.st_lent.proofs.lent.Lent.back.Goals as goal

pub put-requires : goal.put-requires
put-requires g c =
    let R = g.R.Rack in let b = c.self.inside in
    place_kept R.devs R.moment R.state_at R.faults R.spare b.out b.table b.free b.halted b.past b.state.value c.self.invariant

pub invariant_of-result : goal.invariant_of-result
invariant_of-result g c =
    let R = g.R.Rack in let b = c.self.inside in
    holds_back R.devs R.moment R.state_at R.faults R.spare b.out b.table b.free b.halted b.past b.state.value c.self.invariant c.args.pool
    (subst (λ (v : LentView _). IsTheOne R.devs R.moment R.state_at v.out v.state c.args.pool) (sym c.self.view_is) c.requires) c.put.new.self c.put.ensures.items c.put.ensures.room
