use Rattle.std.proofs.Common.{◌≡◌, ◌≤◌, true, Some, refl, sym, ap, subst, ◌∙◌, arith}
use Rattle.st_units.specs.declared.cause.Cause.TheVariants.{OutOfMemory}
use Rattle.st_model.specs.declared.call.Call.TheVariants.{DestroyPool}
use Rattle.st_model.specs.declared.entry.Env.TheVariants.{NoMem}
use Rattle.st_model.specs.Answer.{refused}
use Rattle.st_table.specs.Stands.{Stands}
use Rattle.st_table.specs.Table.{knows}
use Rattle.st_pool.specs.declared.reply.PoolReply.{PoolReply}
use Rattle.st_pool.specs.Answered.{is_device_fault}
use Rattle.st_board.specs.View.{BoardView}
use Rattle.st_leaving.proofs.Plainly.{here_at, nothing_done, own_at, stands_here}
use Rattle.st_ending.specs.Ended.{Untouched}
use Rattle.st_ending.proofs.Ending.{table_told}
use Rattle.st_ending.proofs.run.destroy_at.Goals as goal

pub dropped-requires : goal.dropped-requires
dropped-requires g c =
    let R = g.R.Rack in let s = c.args.before.now.value in let cells = c.args.cells.now.items in let all = c.requires.all in let x = c.requires.at in
    let stands = stands_here R.devs R.moment R.state_at R.faults s cells c.args.board all c.board.inside.table (subst (Stands c.board.inside.table) (ap (λ (v : BoardView _). v.state) c.board.view_is) c.board.invariant.tells) in
    record {
      known = subst (λ n. knows n c.board.inside.table.pools ≡ true) x.2
          (c.the_table_tells.ensures.started c.board.inside.table s x.0.pool all.valid stands (own_at R.devs R.moment R.state_at R.faults s cells c.args.board all c.the_started_pools.ensures.each c.args.place x.0 x.1)).known;
    }

pub run_at-requires-clause-at : goal.run_at-requires-clause-at
run_at-requires-clause-at g c =
    let R = g.R.Rack in let s = c.args.before.now.value in let cells = c.args.cells.now.items in let all = c.requires.all in let x = c.requires.at in
    let stands = stands_here R.devs R.moment R.state_at R.faults s cells c.args.board all c.board.inside.table (subst (Stands c.board.inside.table) (ap (λ (v : BoardView _). v.state) c.board.view_is) c.board.invariant.tells) in
    let told = table_told c.changes_as_the_model.ensures.dropped c.board.inside.table s x.0.pool c.args.name.now x.2 all.valid stands
    (here_at R.devs R.moment R.state_at R.faults s cells c.args.board all c.the_started_pools.ensures.each c.args.place x.0 x.1) c.in-Ok.table c.in-Ok.ensures in
    (x.0, x.1, x.2, told.0, told.1)

pub returns-in-Err-clause-ran : goal.returns-in-Err-clause-ran
returns-in-Err-clause-ran g c =
    let R = g.R.Rack in
    nothing_done R.devs R.moment R.state_at R.faults c.args.before.now.value c.args.cells.now.items c.args.board c.requires.all c.none_has_run.ensures
    (DestroyPool c.args.name.now) NoMem (refused OutOfMemory) c.no_memory.result c.no_memory.ensures refl refl

pub returns-in-Err-clause-did : goal.returns-in-Err-clause-did
returns-in-Err-clause-did g c = Untouched (ap (λ (a : PoolReply). is_device_fault a.env) c.no_memory.ensures) refl refl
