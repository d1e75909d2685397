use Rattle.std.proofs.Common.{sym, subst, false}
use Rattle.st_board.specs.View.{BoardView}
use Rattle.st_board.specs.Changes.{HasTurned}
use Rattle.st_board.proofs.Keeping.{holds_stopped, place_left}
use Rattle.st_board.proofs.board.EngineBoard.stopped.Goals as goal

pub put-requires : goal.put-requires
put-requires g c =
    let R = g.R.Rack in let b = c.self.inside in let turned = c.requires.turned in
    place_left R.devs R.moment R.state_at R.faults R.spare b.table b.free b.halted b.past b.state.value c.args.state.value c.self.invariant c.args.table c.requires.table
    turned.0 (subst (λ (v : BoardView _). HasTurned v.state c.args.state.value false turned.0) (sym c.self.view_is) turned.1)

pub invariant_of-result : goal.invariant_of-result
invariant_of-result g c =
    let R = g.R.Rack in let b = c.self.inside in let turned = c.requires.turned in
    holds_stopped R.devs R.moment R.state_at R.faults R.spare b.table b.free b.halted b.past b.state.value c.args.state.value c.self.invariant c.args.table c.requires.table
    c.keeps_as_the_model.ensures.steps turned.0 c.args.pool c.put.new.self (subst (λ (v : BoardView _). HasTurned v.state c.args.state.value false turned.0) (sym c.self.view_is) turned.1) turned.2
    c.put.ensures.items c.put.ensures.room
