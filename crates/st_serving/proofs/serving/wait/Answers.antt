use Rattle.std.proofs.Common.{map}
use Rattle.std.specs.Prelude.{min, ◌-◌, ◌^◌, option_map}
use Rattle.st_book.specs.View.{TableView}
use Rattle.st_lock.specs.Held.{faults_in}
use Rattle.st_lock.specs.Seats.{state_at}
use Rattle.st_serving.proofs.Served.{holds_of, shown_of, slack_too}
use Rattle.st_serving.proofs.serving.wait.Goals as goal

pub returns-clause-holds : goal.returns-clause-holds
returns-clause-holds g c =
    let viewed = λ (t : g.row.T.Denot). let x : TableView = record { state = g.T.Board.stands t; slack = g.T.Board.slack t } in x in
    let part = c.acquire-guard.result.part in
    let faults = faults_in g.T.Board.fault_count g.C.Cell.fault_count part.table part.cells.items in
    holds_of c.args.seat.now c.acquire-guard.new.seat c.args.waiting.ticket.number c.acquire-guard.result.ticket faults (min faults (2 ^ 64 - 1)) c.args.waiting.job.call (map g.C.Cell.state part.cells.items) (option_map viewed part.table)
    c.requires.waits c.acquire-guard.ensures.later c.acquire-guard.ensures.own.1 c.acquire-guard.ensures.row c.acquire-guard.ensures.part (slack_too g.T.Board.stands g.T.Board.slack c.acquire-guard.new.seat.opening.base part.table c.acquire-guard.ensures.slack) c.acquire-guard.ensures.whole c.acquire-guard.ensures.few

pub returns-clause-shown : goal.returns-clause-shown
returns-clause-shown g c = λ whole.
    let part = c.acquire-guard.result.part in
    shown_of c.args.seat.now c.args.waiting.ticket.number c.args.waiting.job.call (state_at c.acquire-guard.new.seat) (map g.C.Cell.shows part.infos.items) (option_map g.T.Board.shows part.table_info) c.requires.waits (c.acquire-guard.ensures.shown whole)
