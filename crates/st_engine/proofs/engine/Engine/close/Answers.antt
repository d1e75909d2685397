use Rattle.std.proofs.Common.{◌≡◌, subst}
use Rattle.st_units.specs.Roomy.{Roomy}
use Rattle.st_history.specs.declared.log.Event.{Event}
use Rattle.st_pool.specs.View.{PoolView}
use Rattle.st_board.specs.View.{BoardView}
use Rattle.st_engine.specs.Closed.{IsClosed}
use Rattle.st_engine.proofs.engine.Engine.close.Goals as goal

pub returns-in-Quiet-clause-quiet : goal.returns-in-Quiet-clause-quiet
returns-in-Quiet-clause-quiet g c = λ board cells log e.
    let R = g.R.Rack in
    let b : c.in-Quiet.board ≡ board = cc in
    let k : c.in-Quiet.cells ≡ cells = cc in
    let l : c.in-Quiet.log ≡ log = cc in
    subst (λ (x : Roomy Event). IsClosed R.devs R.moment R.state_at R.faults c.args.seat x.items cells.items board) l
    (subst (λ (x : Roomy (PoolView _)). IsClosed R.devs R.moment R.state_at R.faults c.args.seat c.in-Quiet.log.items x.items board) k
    (subst (λ (x : BoardView _). IsClosed R.devs R.moment R.state_at R.faults c.args.seat c.in-Quiet.log.items c.in-Quiet.cells.items x) b
    (record { quiet = c.in-Quiet.ensures.quiet; kept = c.in-Quiet.ensures.kept })))
