use Rattle.std.proofs.Common.{◌≡◌, List, false, None, Some, refl, sym, ap, subst, ◌∙◌}
use Rattle.std.specs.Prelude.{slice_get}
use Rattle.st_units.specs.declared.cause.Cause.TheVariants.{PoolStopped}
use Rattle.st_model.specs.declared.call.Call.TheVariants.{DestroyPool}
use Rattle.st_model.specs.declared.entry.Env.TheVariants.{Plain}
use Rattle.st_model.specs.declared.reply.Given.TheVariants.{Changed}
use Rattle.st_model.specs.Answer.{accepted, refused}
use Rattle.st_model.specs.Parts.{pool_at}
use Rattle.st_table.specs.Stands.{Stands}
use Rattle.st_table.specs.Table.{knows}
use Rattle.st_pool.specs.View.{PoolView}
use Rattle.st_board.specs.View.{BoardView, pools_of}
use Rattle.st_leaving.proofs.Plainly.{unstarted_run}
use Rattle.st_ending.specs.Ended.{Untouched}
use Rattle.st_ending.proofs.Ending.{no_fault}
use Rattle.st_ending.proofs.run.destroy.Goals as goal

pub destroy_at-requires-clause-at : goal.destroy_at-requires-clause-at
destroy_at-requires-clause-at g c = let x = c.in-Some.ensures.some in (x.0, subst (λ (cells : List (PoolView _)). slice_get cells c.in-Some.place ≡ Some x.0) c.items.ensures x.1, x.2)

pub returns-in-None-clause-ran : goal.returns-in-None-clause-ran
returns-in-None-clause-ran g c =
    let R = g.R.Rack in let s = c.args.before.now.value in let name = c.args.name.now in let outcomes = c.ends.ensures.outcomes in
    unstarted_run R.devs R.moment R.state_at R.faults s c.args.cells.now.items c.args.board c.requires.all c.none_has_run.ensures c.the_table_tells.ensures.unstarted
    (DestroyPool name) Plain name c.board.inside.table (refused PoolStopped) (accepted (Changed false None)) c.unstarted-answer.result
    (subst (Stands c.board.inside.table) (ap (λ (v : BoardView _). v.state) c.board.view_is) c.board.invariant.tells)
    (subst (λ (cells : List (PoolView _)). pool_at name (pools_of cells) ≡ None) c.items.ensures c.in-None.ensures.none)
    refl c.unstarted-answer.ensures.known c.unstarted-answer.ensures.unknown (λ p here off. outcomes.idle s name p here off) (λ none. outcomes.unknown s name none)

pub returns-in-None-clause-did : goal.returns-in-None-clause-did
returns-in-None-clause-did g c =
    Untouched (no_fault (knows c.args.name.now c.board.inside.table.pools) (refused PoolStopped) (accepted (Changed false None)) c.unstarted-answer.result c.unstarted-answer.ensures.known c.unstarted-answer.ensures.unknown) refl refl
