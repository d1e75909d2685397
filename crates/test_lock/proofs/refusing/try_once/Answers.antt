use Rattle.std.proofs.Common.{map}
use Rattle.std.specs.Prelude.{min, ◌-◌, ◌^◌, option_map}
use Rattle.st_book.specs.View.{TableView}
use Rattle.st_lock.specs.Held.{faults_in}
use Rattle.test_lock.proofs.Refusals.{holds-of, slack_too}
use Rattle.test_lock.proofs.refusing.try_once.Goals as goal

pub returns-in-Granted-clause-holds : goal.returns-in-Granted-clause-holds
returns-in-Granted-clause-holds g c =
    let viewed = λ (t : g.row.T.Denot). let x : TableView = record { state = g.T.Board.stands t; slack = g.T.Board.slack t } in x in
    let guard = c.in-Granted.guard in
    let part = guard.part in
    let faults = faults_in g.T.Board.fault_count g.C.Cell.fault_count part.table part.cells.items in
    holds-of c.args.seat.now c.try_grant.new.seat c.args.waiting.ticket.number guard.ticket faults (min faults (2 ^ 64 - 1)) c.args.waiting.job.call (map g.C.Cell.state part.cells.items) (option_map viewed part.table)
    c.requires.waits c.in-Granted.ensures.later c.in-Granted.ensures.own.1 c.in-Granted.ensures.row c.in-Granted.ensures.part (slack_too g.T.Board.stands g.T.Board.slack c.try_grant.new.seat.opening.base part.table c.in-Granted.ensures.slack) c.in-Granted.ensures.whole
