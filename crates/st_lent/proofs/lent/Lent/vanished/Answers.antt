use Rattle.std.proofs.Common.{sym, subst}
use Rattle.st_lent.specs.Lent.{HasVanished, LentView}
use Rattle.st_lent.proofs.Vanishing.{apart_from, holds_vanished, place_for}
use Rattle.st_lent.proofs.lent.Lent.vanished.Goals as goal

pub absorb-requires-clause-apart : goal.absorb-requires-clause-apart
absorb-requires-clause-apart g c =
    let R = g.R.Rack in let b = c.self.inside in
    apart_from R.devs R.moment R.state_at R.faults R.spare b.out b.table b.free b.halted b.past b.state.value c.args.state.value c.self.invariant
    c.args.rack (subst (λ (v : LentView _). HasVanished R.devs R.moment R.state_at v.state c.args.state.value v.out c.args.rack) (sym c.self.view_is) c.requires.vanished)

pub absorb-requires-clause-room : goal.absorb-requires-clause-room
absorb-requires-clause-room g c =
    let R = g.R.Rack in let b = c.self.inside in
    place_for R.devs R.moment R.state_at R.faults R.spare b.out b.table b.free b.halted b.past b.state.value c.args.state.value c.self.invariant
    c.args.rack (subst (λ (v : LentView _). HasVanished R.devs R.moment R.state_at v.state c.args.state.value v.out c.args.rack) (sym c.self.view_is) c.requires.vanished) c.devices.ensures.rises c.devices-2.ensures.rises

pub invariant_of-result : goal.invariant_of-result
invariant_of-result g c =
    let R = g.R.Rack in let b = c.self.inside in
    holds_vanished R.devs R.moment R.state_at R.faults R.spare b.out b.table b.free b.halted b.past b.state.value c.args.state.value c.self.invariant
    c.args.rack (subst (λ (v : LentView _). HasVanished R.devs R.moment R.state_at v.state c.args.state.value v.out c.args.rack) (sym c.self.view_is) c.requires.vanished)
    c.absorb.new.self c.absorb.ensures.joined c.args.table c.args.faults c.saturating_add.result c.requires.table c.absorb.ensures.places c.absorb.ensures.faults c.requires.counted c.saturating_add.ensures
