use Rattle.std.proofs.Common.{◌≡◌, ℕ, List, Some, refl, sym, ap, subst, ◌∙◌}
use Rattle.std.specs.Prelude.{slice_get}
use Rattle.st_model.specs.declared.call.Call.TheVariants.{StartPool}
use Rattle.st_table.specs.Stands.{Stands}
use Rattle.st_table.specs.Table.{named}
use Rattle.st_pool.specs.Halts.{HaltedView}
use Rattle.st_board.specs.Holds.{AreHalted}
use Rattle.st_board.specs.View.{BoardView}
use Rattle.st_pool.specs.declared.reply.PoolReply.{PoolReply}
use Rattle.st_pool.specs.Answered.{is_device_fault}
use Rattle.st_waking.specs.Did.{Untouched}
use Rattle.st_waking.specs.Readies.{IsReady}
use Rattle.st_waking.proofs.Plainly.{want_so}
use Rattle.st_waking.proofs.Setting.{is_set, may_start, there}
use Rattle.st_waking.proofs.starting.start_named.Goals as goal

pub make_ready-requires-clause-may : goal.make_ready-requires-clause-may
make_ready-requires-clause-may g c =
    let R = g.R.Rack in let s = c.args.before.now.value in let id = c.args.id.now in let was = c.args.board in let b = c.board.inside in
    may_start R.devs R.moment R.state_at R.faults s id c.args.cells.now.items was c.requires.all b.table (subst (λ (v : BoardView _). Stands b.table v.state) c.board.view_is c.board.invariant.tells)
    (subst (λ (v : BoardView _). AreHalted R.devs R.moment R.state_at v.state.stopped v.halted) c.board.view_is c.board.invariant.keeps.are_halted) c.tells_of_each_pool.ensures.serials c.args.name.now c.requires.found c.tables_of_a_start.ensures.may

pub make_ready-requires-clause-there : goal.make_ready-requires-clause-there
make_ready-requires-clause-there g c =
    let R = g.R.Rack in let s = c.args.before.now.value in let id = c.args.id.now in let was = c.args.board in let b = c.board.inside in
    subst (λ (hs : List (HaltedView _)). (i : ℕ) × (h : HaltedView _) × (slice_get hs i ≡ Some h) × (named h.serial b.table.pools ≡ Some c.args.name.now)) (sym (c.items.ensures ∙ ap (λ (v : BoardView _). v.halted) c.board.view_is))
    (there R.devs R.moment R.state_at R.faults s id c.args.cells.now.items was c.requires.all b.table (subst (λ (v : BoardView _). Stands b.table v.state) c.board.view_is c.board.invariant.tells)
    (subst (λ (v : BoardView _). AreHalted R.devs R.moment R.state_at v.state.stopped v.halted) c.board.view_is c.board.invariant.keeps.are_halted) c.tells_of_each_pool.ensures.serials c.args.name.now c.requires.found)

pub start_at-requires-clause-set : goal.start_at-requires-clause-set
start_at-requires-clause-set g c =
    let R = g.R.Rack in let s = c.args.before.now.value in let id = c.args.id.now in let was = c.args.board in let b = c.board.inside in let found = c.requires.found in
    let ready = subst (λ (hs : List (HaltedView _)). IsReady R.devs b.table hs c.args.name.now c.in-Ok.ready) (c.items.ensures ∙ ap (λ (v : BoardView _). v.halted) c.board.view_is) c.in-Ok.ensures in (
      found.0,
      ready.pool,
      found.2,
      is_set R.devs R.moment R.state_at R.faults s id c.args.cells.now.items was c.requires.all b.table (subst (λ (v : BoardView _). Stands b.table v.state) c.board.view_is c.board.invariant.tells)
          (subst (λ (v : BoardView _). AreHalted R.devs R.moment R.state_at v.state.stopped v.halted) c.board.view_is c.board.invariant.keeps.are_halted) c.tells_of_each_pool.ensures.serials c.args.name.now found c.in-Ok.ready ready c.tables_of_a_start.ensures.tell,
    )

pub returns-in-Err-clause-ran : goal.returns-in-Err-clause-ran
returns-in-Err-clause-ran g c =
    let R = g.R.Rack in let s = c.args.before.now.value in let id = c.args.id.now in
    c.none_has_run.ensures s (StartPool id) c.no_memory.result c.args.cells.now.items c.args.board
    (want_so R.devs R.moment R.state_at R.faults s id c.args.cells.now.items c.args.board c.requires.all c.no_memory.result c.no_memory.ensures)

pub returns-in-Err-clause-did : goal.returns-in-Err-clause-did
returns-in-Err-clause-did g c = Untouched (ap (λ (a : PoolReply). is_device_fault a.env) c.no_memory.ensures) refl refl
