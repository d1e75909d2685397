use Rattle.std.proofs.Common.{map}
use Rattle.std.specs.Prelude.{option_map}
use Rattle.st_book.specs.View.{TableView}
use Rattle.st_lock.specs.Held.{faults_in}
use Rattle.test_lock.proofs.Later.{holds-back, holds-left, none-held}
use Rattle.test_lock.proofs.staying.close_and_give_back.Goals as goal

pub unreachable-requires : goal.unreachable-requires
unreachable-requires g c =
    let viewed = λ (t : g.row.T.Denot). let x : TableView = record { state = g.T.Board.stands t; slack = g.T.Board.slack t } in x in
    let run = c.args.running in
    let part = run.guard.part in
    none-held c.args.seat run.guard.ticket (faults_in g.T.Board.fault_count g.C.Cell.fault_count part.table part.cells.items) run.job.call (map g.C.Cell.state part.cells.items) (option_map viewed part.table) _ _ _ _ c.requires.holds c.in-Quiet.ensures.quiet

pub give_back-requires-clause-holds : goal.give_back-requires-clause-holds
give_back-requires-clause-holds g c κs within =
    let viewed = λ (t : g.row.T.Denot). let x : TableView = record { state = g.T.Board.stands t; slack = g.T.Board.slack t } in x in
    let run = c.args.running in
    let part = run.guard.part in
    holds-back c.args.seat c.in-Unjoined.seat _ run.guard.ticket (faults_in g.T.Board.fault_count g.C.Cell.fault_count part.table part.cells.items) run.job.call (map g.C.Cell.state part.cells.items) (option_map viewed part.table) c.requires.holds c.in-Unjoined.ensures.unjoined.1

pub give_back-requires-in-Left-clause-holds : goal.give_back-requires-in-Left-clause-holds
give_back-requires-in-Left-clause-holds g c κs within =
    let viewed = λ (t : g.row.T.Denot). let x : TableView = record { state = g.T.Board.stands t; slack = g.T.Board.slack t } in x in
    let run = c.args.running in
    let part = run.guard.part in
    holds-left c.args.seat c.in-Left.seat run.guard.ticket (faults_in g.T.Board.fault_count g.C.Cell.fault_count part.table part.cells.items) run.job.call (map g.C.Cell.state part.cells.items) (option_map viewed part.table) c.requires.holds c.in-Left.ensures.left.2 c.in-Left.ensures.left.3
