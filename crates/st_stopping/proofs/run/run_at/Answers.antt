use Rattle.std.proofs.Common.{◌≡◌, List, refl, sym, ap, subst, ◌∙◌, arith}
use Rattle.st_model.specs.declared.call.Call.TheVariants.{StopPool}
use Rattle.st_model.specs.declared.state.PoolState.{PoolState}
use Rattle.st_model.specs.Checks.{halted}
use Rattle.st_table.specs.Steps.{StandsFor, with_other}
use Rattle.st_pool.specs.View.{PoolView}
use Rattle.st_board.specs.Ran.{HasRun}
use Rattle.st_board.specs.View.{BoardView}
use Rattle.st_leaving.proofs.Plainly.{changed_by, here_at, length_taken, same_at, started_at}
use Rattle.st_stopping.specs.Stopped.{DidStop, Stopped}
use Rattle.st_stopping.proofs.Stopping.{stands_now, stopped_run, turned}
use Rattle.st_stopping.proofs.run.run_at.Goals as goal

pub stopped-board-requires-clause-turned : goal.stopped-board-requires-clause-turned
stopped-board-requires-clause-turned g c =
    let R = g.R.Rack in let s = c.args.before.now.value in let cells = c.args.cells.now.items in let all = c.requires.all in let x = c.requires.at in
    let pool = c.take_at-pool.result in let at = c.take_at-pool.ensures.taken in let each = c.the_started_pools.ensures.each in
    let named = sym (ap (λ (v : PoolView _). v.pool.name) (same_at cells c.args.place x.0 pool x.1 at)) ∙ x.2 in (
      halted pool.pool,
      turned c.stops.ensures.outcomes c.stops.ensures.stays s pool.pool all.valid (here_at R.devs R.moment R.state_at R.faults s cells c.args.board all each c.args.place pool at)
          (started_at R.devs R.moment R.state_at R.faults s cells c.args.board all each c.args.place pool at) c.args.name.now named c.args.board.state c.state_after-state.result.value all.table c.state_after-state.ensures,
      c.stop.ensures.halts,
    )

pub stopped-board-requires-clause-table : goal.stopped-board-requires-clause-table
stopped-board-requires-clause-table g c =
    let R = g.R.Rack in let s = c.args.before.now.value in let cells = c.args.cells.now.items in let all = c.requires.all in let x = c.requires.at in
    let pool = c.take_at-pool.result in let at = c.take_at-pool.ensures.taken in let each = c.the_started_pools.ensures.each in
    let same = same_at cells c.args.place x.0 pool x.1 at in
    let named = sym (ap (λ (v : PoolView _). v.pool.name) same) ∙ x.2 in
    stands_now c.stops.ensures.outcomes c.stops.ensures.stays s pool.pool all.valid (here_at R.devs R.moment R.state_at R.faults s cells c.args.board all each c.args.place pool at)
    (started_at R.devs R.moment R.state_at R.faults s cells c.args.board all each c.args.place pool at) c.args.name.now named c.state_after-state.result.value c.state_after-state.ensures c.args.table
    (subst (λ (v : PoolView _). StandsFor c.args.table (with_other c.args.name.now (halted v.pool) s)) same x.4)

pub returns-clause-ran : goal.returns-clause-ran
returns-clause-ran g c =
    let R = g.R.Rack in let s = c.args.before.now.value in let cells = c.args.cells.now.items in let all = c.requires.all in let x = c.requires.at in
    let pool = c.take_at-pool.result in let at = c.take_at-pool.ensures.taken in let each = c.the_started_pools.ensures.each in
    let named = sym (ap (λ (v : PoolView _). v.pool.name) (same_at cells c.args.place x.0 pool x.1 at)) ∙ x.2 in
    subst (λ (left : List (PoolView _)). HasRun R.devs R.moment R.state_at R.faults s (StopPool c.args.name.now) c.changed-answer.result cells c.args.board left c.stopped-board.result) (sym c.take_at-pool.ensures.items)
    (stopped_run c.stops.ensures.outcomes c.stops.ensures.stays s pool.pool all.valid (here_at R.devs R.moment R.state_at R.faults s cells c.args.board all each c.args.place pool at)
    (started_at R.devs R.moment R.state_at R.faults s cells c.args.board all each c.args.place pool at) R.devs R.moment R.state_at R.faults c.one_has_stopped.ensures cells c.args.place pool c.stop.result c.args.board c.stopped-board.result
    c.changed-answer.result c.args.name.now c.state_after-state.result.value c.args.table.spare all at refl named (changed_by pool.pool c.view.result.now c.changed-answer.result c.view.ensures.shown c.changed-answer.ensures)
    c.state_after-state.ensures x.3 c.stopped-board.ensures c.stop.ensures.faults)

pub returns-clause-did : goal.returns-clause-did
returns-clause-did g c =
    let cells = c.args.cells.now.items in let x = c.requires.at in let pool = c.take_at-pool.result in let at = c.take_at-pool.ensures.taken in
    let named = sym (ap (λ (v : PoolView _). v.pool.name) (same_at cells c.args.place x.0 pool x.1 at)) ∙ x.2 in
    Stopped c.args.place pool c.stop.result at named c.take_at-pool.ensures.items c.stop.ensures.rack (ap (λ (v : BoardView _). v.halted) c.stopped-board.ensures) (ap (λ (v : BoardView _). v.free) c.stopped-board.ensures)

pub returns-clause-places : goal.returns-clause-places
returns-clause-places g c =
    let fewer = length_taken c.args.cells.now.items c.args.place c.take_at-pool.result c.take_at-pool.ensures.taken in
    let left = ap Rattle.std.specs.Prelude.length c.take_at-pool.ensures.items in
    let room = c.take_at-pool.ensures.room in
    omega (arith, fewer, left, room)
