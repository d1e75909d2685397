use Rattle.std.proofs.Common.{sym, subst}
use Rattle.st_board.specs.View.{BoardView}
use Rattle.st_board.specs.Changes.{HasGone}
use Rattle.st_board.proofs.Keeping.{apart_from, holds_gone, place_for}
use Rattle.st_board.proofs.board.EngineBoard.freed.Goals as goal

pub absorb-requires-clause-apart : goal.absorb-requires-clause-apart
absorb-requires-clause-apart g c =
    let R = g.R.Rack in let b = c.self.inside in
    apart_from R.devs R.moment R.state_at R.faults R.spare b.table b.free b.halted b.past b.state.value c.args.state.value c.self.invariant c.args.table c.requires.table
    c.args.rack (subst (λ (v : BoardView _). HasGone R.devs R.moment R.state_at v.state c.args.state.value c.args.rack) (sym c.self.view_is) c.requires.gone)

pub absorb-requires-clause-room : goal.absorb-requires-clause-room
absorb-requires-clause-room g c =
    let R = g.R.Rack in let b = c.self.inside in
    place_for R.devs R.moment R.state_at R.faults R.spare b.table b.free b.halted b.past b.state.value c.args.state.value c.self.invariant c.args.table c.requires.table
    c.args.rack (subst (λ (v : BoardView _). HasGone R.devs R.moment R.state_at v.state c.args.state.value c.args.rack) (sym c.self.view_is) c.requires.gone) c.devices.ensures.rises c.devices-2.ensures.rises

pub invariant_of-result : goal.invariant_of-result
invariant_of-result g c =
    let R = g.R.Rack in let b = c.self.inside in
    holds_gone R.devs R.moment R.state_at R.faults R.spare b.table b.free b.halted b.past b.state.value c.args.state.value c.self.invariant c.args.table c.requires.table
    c.args.rack (subst (λ (v : BoardView _). HasGone R.devs R.moment R.state_at v.state c.args.state.value c.args.rack) (sym c.self.view_is) c.requires.gone)
    c.absorb.new.self c.args.faults c.saturating_add.result c.absorb.ensures.joined c.absorb.ensures.places c.absorb.ensures.faults c.requires.counted c.saturating_add.ensures
