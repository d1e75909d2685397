use Rattle.std.proofs.Common.{Option, Some, None, sym, subst}
use Rattle.st_model.specs.declared.call.Call.{Call}
use Rattle.st_board.specs.View.{BoardView, pools_of}
use Rattle.st_running.specs.Part.{HasRunOn, IsPart, as_table}
use Rattle.st_running.proofs.Reported.{reported}
use Rattle.st_running.proofs.Whole.{is_report, ran_whole, takes_all, whole}
use Rattle.st_running.proofs.on_part.run_on.Goals as goal

pub on_all-board-requires-clause-all : goal.on_all-board-requires-clause-all
on_all-board-requires-clause-all g c =
    let R = g.R.Rack in let s = c.args.before.now.value in let call = c.args.call.now in let p = c.args.part in
    let h = subst (λ (t : Option (BoardView _)). IsPart R.devs R.moment R.state_at R.faults s call p.cells.items t p.infos.items p.table_info p.short) c.in-Some.is c.requires.part in
    let wants = takes_all s call (pools_of p.cells.items) (as_table R.faults c.in-Some.board) c.requires.runs h.part in
    whole R.devs R.moment R.state_at R.faults s call p.cells.items c.in-Some.board p.infos.items p.table_info p.short wants h

pub returns-in-Some : goal.returns-in-Some
returns-in-Some g c =
    let R = g.R.Rack in let s = c.args.before.now.value in let call = c.args.call.now in let p = c.args.part in
    let ran = c.on_all-board in
    let h = subst (λ (t : Option (BoardView _)). IsPart R.devs R.moment R.state_at R.faults s call p.cells.items t p.infos.items p.table_info p.short) c.in-Some.is c.requires.part in
    let wants = takes_all s call (pools_of p.cells.items) (as_table R.faults c.in-Some.board) c.requires.runs h.part in
    subst (λ (t : Option (BoardView _)). HasRunOn R.devs R.moment R.state_at R.faults s call ran.result.answer p.cells.items t ran.new.cells.items (Some ran.result.board)) (sym c.in-Some.is)
    (ran_whole R.devs R.moment R.state_at R.faults s call ran.result.answer p.cells.items ran.new.cells.items c.in-Some.board ran.result.board wants c.requires.runs c.board_keeps.ensures ran.ensures)

pub returns-in-None : goal.returns-in-None
returns-in-None g c =
    let R = g.R.Rack in let s = c.args.before.now.value in let call = c.args.call.now in let p = c.args.part in
    let answer = c.answer_report-answer.result in
    let h = subst (λ (t : Option (BoardView _)). IsPart R.devs R.moment R.state_at R.faults s call p.cells.items t p.infos.items p.table_info p.short) c.in-None.is c.requires.part in
    let is = is_report s call (pools_of p.cells.items) c.requires.runs h.part in
    let h' = subst (λ (k : Call). IsPart R.devs R.moment R.state_at R.faults s k p.cells.items None p.infos.items p.table_info p.short) is h in
    subst (λ (t : Option (BoardView _)). HasRunOn R.devs R.moment R.state_at R.faults s call answer p.cells.items t p.cells.items None) (sym c.in-None.is)
    (subst (λ (k : Call). HasRunOn R.devs R.moment R.state_at R.faults s k answer p.cells.items None p.cells.items None) (sym is)
    (reported R.devs R.moment R.state_at R.faults s answer p.cells.items p.infos.items p.table_info p.short h' c.answer_report-answer.ensures))
