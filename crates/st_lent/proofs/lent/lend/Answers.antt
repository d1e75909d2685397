use Rattle.std.proofs.Common.{◌≡◌, sym, subst, Some}
use Rattle.st_model.specs.declared.state.PoolState.{PoolState}
use Rattle.st_pool.specs.Halts.{Halts}
use Rattle.st_board.specs.Holds.{stopped_at}
use Rattle.st_board.specs.View.{BoardView}
use Rattle.st_lent.specs.Lent.{HoldsBut}
use Rattle.st_lent.proofs.Out.{halts_one, holds_but}
use Rattle.st_lent.proofs.lent.lend.Goals as goal

pub invariant_of-board : goal.invariant_of-board
invariant_of-board g c =
    let R = g.R.Rack in let b = c.board.inside in
    subst (λ n. HoldsBut R.devs R.moment R.state_at R.faults R.spare n b.table b.free c.take_at-pool.new.self b.past b.state.value) (sym c.serial-out.ensures)
    (holds_but R.devs R.moment R.state_at R.faults R.spare b.table b.free b.halted b.past b.state.value c.board.invariant c.args.place c.take_at-pool.result c.take_at-pool.ensures.taken
    c.take_at-pool.new.self c.take_at-pool.ensures.items c.take_at-pool.ensures.room)

pub returns-clause-halts : goal.returns-clause-halts
returns-clause-halts g c =
    let R = g.R.Rack in let b = c.board.inside in
    subst (λ (v : BoardView _). (p : PoolState) × (stopped_at c.take_at-pool.result.serial v.state.stopped ≡ Some p) × Halts R.devs R.moment R.state_at p c.take_at-pool.result) c.board.view_is
    (halts_one R.devs R.moment R.state_at R.faults R.spare b.table b.free b.halted b.past b.state.value c.board.invariant c.args.place c.take_at-pool.result c.take_at-pool.ensures.taken)
