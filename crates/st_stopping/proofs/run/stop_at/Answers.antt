use Rattle.std.proofs.Common.{◌≡◌, refl, sym, ap, subst, ◌∙◌}
use Rattle.st_units.specs.declared.cause.Cause.TheVariants.{OutOfMemory}
use Rattle.st_model.specs.declared.call.Call.TheVariants.{StopPool}
use Rattle.st_model.specs.declared.entry.Env.TheVariants.{NoMem}
use Rattle.st_model.specs.Answer.{refused}
use Rattle.st_model.specs.Parts.{own}
use Rattle.std.specs.Prelude.{Some}
use Rattle.st_table.specs.Stands.{Stands}
use Rattle.st_pool.specs.View.{PoolView}
use Rattle.st_board.specs.View.{BoardView}
use Rattle.st_leaving.proofs.Plainly.{nothing_done, own_at, same_at, stands_here}
use Rattle.st_stopping.proofs.run.stop_at.Goals as goal

pub table_after-requires-clause-started : goal.table_after-requires-clause-started
table_after-requires-clause-started g c =
    let R = g.R.Rack in let s = c.args.before.now.value in let cells = c.args.cells.now.items in let all = c.requires.all in let x = c.requires.at in
    let same = same_at cells c.args.place x.0 c.at.result.now x.1 c.at.ensures in
    let named = sym (ap (λ (v : PoolView _). v.pool.name) same) ∙ x.2 in (
      all.valid,
      stands_here R.devs R.moment R.state_at R.faults s cells c.args.board all c.board.inside.table (subst (Stands c.board.inside.table) (ap (λ (v : BoardView _). v.state) c.board.view_is) c.board.invariant.tells),
      subst (λ n. own n s ≡ Some c.at.result.now.pool) named (own_at R.devs R.moment R.state_at R.faults s cells c.args.board all c.the_started_pools.ensures.each c.args.place c.at.result.now c.at.ensures),
    )

pub run_at-requires-clause-at : goal.run_at-requires-clause-at
run_at-requires-clause-at g c =
    let x = c.requires.at in
    let same = same_at c.args.cells.now.items c.args.place x.0 c.at.result.now x.1 c.at.ensures in
    (c.at.result.now, c.at.ensures, sym (ap (λ (v : PoolView _). v.pool.name) same) ∙ x.2, c.in-Ok.ensures.0, c.in-Ok.ensures.1)

pub returns-in-Err-clause-ran : goal.returns-in-Err-clause-ran
returns-in-Err-clause-ran g c =
    let R = g.R.Rack in
    nothing_done R.devs R.moment R.state_at R.faults c.args.before.now.value c.args.cells.now.items c.args.board c.requires.all c.none_has_run.ensures
    (StopPool c.args.name.now) NoMem (refused OutOfMemory) c.no_memory.result c.no_memory.ensures refl refl
