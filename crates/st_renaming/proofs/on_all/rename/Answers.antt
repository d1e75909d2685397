use Rattle.std.proofs.Common.{◌≡◌, bytes_eq, Some, None, refl, sym, subst, arith, slice_get}
use Rattle.st_model.specs.declared.call.Call.TheVariants.{RenamePool}
use Rattle.st_model.specs.Look.{Text}
use Rattle.st_model.specs.Parts.{pool_at}
use Rattle.st_table.specs.Stands.{Stands}
use Rattle.st_board.specs.Ran.{HasRun}
use Rattle.st_board.specs.View.{BoardView, pools_of}
use Rattle.st_table.specs.Table.{is_taken, knows}
use Rattle.st_renaming.specs.Renames.{DidRename}
use Rattle.st_renaming.specs.inner.Answers.{answer_unstarted}
use Rattle.st_renaming.specs.inner.Ready.{IsPlan}
use Rattle.st_renaming.proofs.Refused.{plainly_so, told_unstarted}
use Rattle.st_renaming.proofs.Renaming.{is_for, none_own, unmoved}
use Rattle.st_renaming.proofs.on_all.rename.Goals as goal

pub same-board : goal.same-board
same-board g c = refl

pub returns-in-None-clause-ran : goal.returns-in-None-clause-ran
returns-in-None-clause-ran g c =
    let R = g.R.Rack in let s = c.args.before.now.value in let cells = c.args.cells.now.items in let all = c.requires.all in let name = c.args.name.now in let new = c.args.new.now in
    let table = c.board.inside.table in
    let stands = subst (Stands table) all.table (subst (λ (v : BoardView _). Stands table v.state) c.board.view_is c.board.invariant.tells) in
    let none = none_own R.devs R.moment R.state_at R.faults s cells c.args.board all name (subst (λ xs. pool_at name (pools_of xs) ≡ None) c.items.ensures c.in-None.ensures.none) in
    unmoved R.devs R.moment R.state_at R.faults s cells c.args.board all name new c.unstarted-answer.result
    (plainly_so s name new (answer_unstarted (knows name table.pools) (bytes_eq name new) (is_taken new table.pools)) c.unstarted-answer.result c.unstarted-answer.ensures (told_unstarted table s all.valid stands c.tells_as_the_model.ensures c.tells_of_each_pool.ensures.pools name new none))

pub returns-in-None-clause-places : goal.returns-in-None-clause-places
returns-in-None-clause-places g c = omega arith

pub make_ready-requires : goal.make_ready-requires
make_ready-requires g c =
    let R = g.R.Rack in let s = c.args.before.now.value in let all = c.requires.all in let found = c.in-Some.ensures.some in
    let table = c.board-in-Some.inside.table in
    let tells = subst (λ (v : BoardView _). Stands table v.state) c.board-in-Some.view_is c.board-in-Some.invariant.tells in
    record {
      here = is_for R.devs R.moment R.state_at R.faults s c.args.cells.now.items c.args.board all c.in-Some.place found.0
          (subst (λ xs. slice_get xs c.in-Some.place ≡ Some found.0) c.items.ensures found.1) table tells c.args.name.now found.2;
    }

pub same-board-in-Answered : goal.same-board-in-Answered
same-board-in-Answered g c = refl

pub same-board-in-Planned : goal.same-board-in-Planned
same-board-in-Planned g c = refl

pub run_at-requires-clause-all : goal.run_at-requires-clause-all
run_at-requires-clause-all g c = c.requires.all

pub run_at-requires-clause-at : goal.run_at-requires-clause-at
run_at-requires-clause-at g c =
    let found = c.in-Some.ensures.some in
    (found.0, subst (λ xs. slice_get xs c.in-Some.place ≡ Some found.0) c.items.ensures found.1, found.2)

pub run_at-requires-clause-plan : goal.run_at-requires-clause-plan
run_at-requires-clause-plan g c =
    let plan = c.in-Planned.plan in let ready = c.in-Planned.ensures.planned plan refl in
    subst (λ (n : Text). IsPlan c.args.before.now.value c.args.name.now n plan) (sym ready.given) ready

pub returns-in-Answered-clause-ran : goal.returns-in-Answered-clause-ran
returns-in-Answered-clause-ran g c =
    let R = g.R.Rack in
    unmoved R.devs R.moment R.state_at R.faults c.args.before.now.value c.args.cells.now.items c.args.board c.requires.all c.args.name.now c.args.new.now c.in-Answered.answer
    (c.in-Answered.ensures.answered c.in-Answered.answer refl)

pub returns-in-Answered-clause-places : goal.returns-in-Answered-clause-places
returns-in-Answered-clause-places g c = omega arith

pub returns-in-Planned-clause-ran : goal.returns-in-Planned-clause-ran
returns-in-Planned-clause-ran g c =
    let R = g.R.Rack in let plan = c.in-Planned.plan in let ready = c.in-Planned.ensures.planned plan refl in
    subst (λ (n : Text). HasRun R.devs R.moment R.state_at R.faults c.args.before.now.value (RenamePool c.args.name.now n) c.run_at.result.answer c.args.cells.now.items c.args.board c.run_at.new.cells.items c.run_at.result.board)
    ready.given c.run_at.ensures.ran

pub returns-in-Planned-clause-places : goal.returns-in-Planned-clause-places
returns-in-Planned-clause-places g c = c.run_at.ensures.places

pub returns-in-None-clause-did : goal.returns-in-None-clause-did
returns-in-None-clause-did g c = DidRename.Untouched refl refl

pub returns-in-Answered-clause-did : goal.returns-in-Answered-clause-did
returns-in-Answered-clause-did g c = DidRename.Untouched refl refl

pub returns-in-Planned-clause-did : goal.returns-in-Planned-clause-did
returns-in-Planned-clause-did g c =
    let R = g.R.Rack in let plan = c.in-Planned.plan in let ready = c.in-Planned.ensures.planned plan refl in
    subst (λ (n : Text). DidRename R.devs R.moment R.state_at R.faults c.args.name.now n c.run_at.result.answer c.args.cells.now.items c.args.board c.run_at.new.cells.items c.run_at.result.board)
    ready.given c.run_at.ensures.did
