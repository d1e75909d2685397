use Rattle.std.proofs.Common.{◌≡◌, ℕ, ◌+◌, ◌<◌, ◌≤◌, List, refl, sym, ap, subst}
use Rattle.st_model.specs.declared.state.EngineState.{EngineState}
use Rattle.st_alone.specs.Alone.{HomeView}
use Rattle.st_history.specs.Failures.{failures}
use Rattle.st_board.specs.View.{last}
use Rattle.st_closing.specs.Kept.{KeptRack}
use Rattle.st_pool.specs.View.{now}
use Rattle.st_session.specs.inner.Ended.{HasRun}
use Rattle.st_session.proofs.Boards.{all_fresh, none_counted, none_ran}
use Rattle.st_session.proofs.on_board.run_board.Goals as goal

pub begin-requires-clause-spare : goal.begin-requires-clause-spare
begin-requires-clause-spare g c κs within = c.requires.fresh.shown

pub begin-requires-clause-faults : goal.begin-requires-clause-faults
begin-requires-clause-faults g c κs within = c.requires.fresh.none

pub begin-requires-clause-kept : goal.begin-requires-clause-kept
begin-requires-clause-kept g c κs within = c.board_keeps.ensures

pub begin-requires-clause-valid : goal.begin-requires-clause-valid
begin-requires-clause-valid g c κs within = c.requires.fresh.valid

pub begin-requires-clause-stands : goal.begin-requires-clause-stands
begin-requires-clause-stands g c κs within = sym c.requires.fresh.stands

pub begin-requires-clause-quiet : goal.begin-requires-clause-quiet
begin-requires-clause-quiet g c κs within = c.requires.fresh.idle

pub run_home-requires-clause-new : goal.run_home-requires-clause-new
run_home-requires-clause-new g c = (ap (λ (v : HomeView). v.log) c.in-Ok.ensures.new, ap (λ (v : HomeView). v.tickets) c.in-Ok.ensures.new)

pub run_home-requires-clause-few : goal.run_home-requires-clause-few
run_home-requires-clause-few g c = c.requires.few

pub returns-in-Ok-clause-run : goal.returns-in-Ok-clause-run
returns-in-Ok-clause-run g c =
    let R = g.R.Rack in
    subst (λ (s : EngineState). HasRun R.devs R.moment R.state_at c.args.lanes c.args.lines.now s c.run_home.result.log.items c.run_home.result.rack) (ap (λ (v : HomeView). v.opening) c.in-Ok.ensures.new) c.run_home.ensures.run

pub returns-in-Ok-clause-counts : goal.returns-in-Ok-clause-counts
returns-in-Ok-clause-counts g c less =
    let R = g.R.Rack in
    subst (λ (n : ℕ). n + failures c.run_home.result.log.items ≤ R.faults c.run_home.result.rack) (ap (λ (v : HomeView). v.base) c.in-Ok.ensures.new) (c.run_home.ensures.counts less)

pub returns-in-Ok-clause-answers : goal.returns-in-Ok-clause-answers
returns-in-Ok-clause-answers g c = c.run_home.ensures.answers

pub returns-in-Ok-clause-all : goal.returns-in-Ok-clause-all
returns-in-Ok-clause-all g c = c.run_home.ensures.all

pub close_board-rack-requires : goal.close_board-rack-requires
close_board-rack-requires g c =
    let R = g.R.Rack in
    all_fresh R.devs R.moment R.state_at R.faults c.args.state.value c.in-Err.state.value c.args.board c.in-Err.board c.make-cells.result.items c.requires.fresh c.in-Err.ensures.back.1 c.in-Err.ensures.back.0 c.make-cells.ensures

pub returns-in-Err-clause-run : goal.returns-in-Err-clause-run
returns-in-Err-clause-run g c =
    let R = g.R.Rack in let r = c.close_board-rack.result in
    none_ran R.devs R.moment R.state_at c.args.lanes c.args.lines.now c.args.state.value c.make-log.result.items r c.make-log.ensures
    (subst (λ (s : EngineState). KeptRack s (R.devs r) (now R.moment R.state_at r)) c.in-Err.ensures.back.1 c.close_board-rack.ensures.kept)

pub returns-in-Err-clause-counts : goal.returns-in-Err-clause-counts
returns-in-Err-clause-counts g c =
    let R = g.R.Rack in
    none_counted R.devs R.moment R.state_at R.faults c.args.board c.in-Err.board c.make-cells.result.items c.make-log.result.items c.close_board-rack.result c.in-Err.ensures.back.0 c.make-log.ensures c.close_board-rack.ensures.counts

pub returns-in-Err-clause-answers : goal.returns-in-Err-clause-answers
returns-in-Err-clause-answers g c = tt

pub returns-in-Err-clause-all : goal.returns-in-Err-clause-all
returns-in-Err-clause-all g c = tt
