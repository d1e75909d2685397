use Rattle.std.proofs.Common.{◌≡◌, ℕ, ◌+◌, ◌<◌, ◌≤◌, ◌^◌, List, Some, length, map, refl, sym, ◌∙◌, ap, subst}
use Rattle.st_model.specs.declared.state.EngineState.{EngineState}
use Rattle.st_model.specs.Valid.{IsValid}
use Rattle.st_history.specs.declared.log.Event.{Event}
use Rattle.st_history.specs.Failures.{failures}
use Rattle.st_history.specs.History.{History, replay}
use Rattle.st_alone.specs.Alone.{state_at}
use Rattle.st_board.specs.Ran.{AreAll}
use Rattle.st_board.specs.View.{faults_with, last}
use Rattle.st_closing.specs.Kept.{KeptRack}
use Rattle.st_pool.specs.View.{now}
use Rattle.st_session.specs.inner.Ended.{HasRun}
use Rattle.st_session.proofs.Boards.{all_counted, all_home, few_events}
use Rattle.st_session.proofs.on_board.run_home.Given.{Over}
use Rattle.st_session.proofs.on_board.run_home.Goals as goal

pub run_lines-home-requires-clause-empty : goal.run_lines-home-requires-clause-empty
run_lines-home-requires-clause-empty g c = c.requires.new.0

pub run_lines-home-requires-clause-no_ticket : goal.run_lines-home-requires-clause-no_ticket
run_lines-home-requires-clause-no_ticket g c = c.requires.new.1

pub close_board-rack-requires : goal.close_board-rack-requires
close_board-rack-requires g c =
    let R = g.R.Rack in let closed = c.close-table.ensures in
    subst (λ (s : EngineState). AreAll R.devs R.moment R.state_at R.faults s c.close-table.result.cells.items c.close-table.result.table) (sym closed.state)
    (all_home R.devs R.moment R.state_at R.faults (state_at c.run_lines-home.result.home) c.close-table.result.table c.close-table.result.cells.items closed.valid closed.part closed.kept.0)

pub returns-clause-run : goal.returns-clause-run
returns-clause-run g c =
    let R = g.R.Rack in let ran = c.run_lines-home.ensures in let closed = c.close-table.ensures in let home = c.run_lines-home.result.home in let r = c.close_board-rack.result in
    let kept = subst (λ (s : EngineState). KeptRack s (R.devs r) (now R.moment R.state_at r)) closed.state c.close_board-rack.ensures.kept in
    subst (λ (s : EngineState). HasRun R.devs R.moment R.state_at c.args.lanes c.args.lines.now s c.close-table.result.log.items r) ran.same.0
    (subst (λ (l : List Event). HasRun R.devs R.moment R.state_at c.args.lanes c.args.lines.now home.opening l r) (sym closed.log) (record {
      history = closed.history;
      order = ran.laned;
      quiet = closed.quiet;
      kept = kept;
    }))

pub returns-clause-counts : goal.returns-clause-counts
returns-clause-counts g c less =
    let R = g.R.Rack in let ran = c.run_lines-home.ensures in let closed = c.close-table.ensures in let home = c.run_lines-home.result.home in let r = c.close_board-rack.result in
    let small : length home.log < 2 ^ 62 = few_events (length home.log) (length c.args.lines.now) ran.short c.requires.few in
    let same : failures c.close-table.result.log.items ≡ faults_with c.close-table.result.cells.items c.close-table.result.table = ap failures closed.log ∙ closed.faults small in
    subst (λ (n : ℕ). n + failures c.close-table.result.log.items ≤ R.faults r) ran.same.1
    (all_counted R.devs R.moment R.state_at R.faults home.base (failures c.close-table.result.log.items) c.close-table.result.table c.close-table.result.cells.items r closed.slack same c.close_board-rack.ensures.counts less)

pub returns-clause-answers : goal.returns-clause-answers
returns-clause-answers g c = rw c.close-table.ensures.log c.run_lines-home.ensures.answers

pub returns-clause-all : goal.returns-clause-all
returns-clause-all g c = c.run_lines-home.ensures.all
