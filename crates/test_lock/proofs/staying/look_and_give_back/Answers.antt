use Rattle.std.proofs.Common.{[], map, sym, ◌∙◌}
use Rattle.std.specs.Prelude.{option_map}
use Rattle.std.proofs.lemmas.List.{append-nil}
use Rattle.st_book.specs.View.{TableView}
use Rattle.st_lock.specs.Held.{faults_in}
use Rattle.st_lock.proofs.Staying.{gone_on}
use Rattle.test_lock.proofs.Later.{holds-on}
use Rattle.test_lock.proofs.staying.look_and_give_back.Goals as goal

pub give_back-requires-clause-holds : goal.give_back-requires-clause-holds
give_back-requires-clause-holds g c κs within =
    let viewed = λ (t : g.row.T.Denot). let x : TableView = record { state = g.T.Board.stands t; slack = g.T.Board.slack t } in x in
    let part = c.args.running.guard.part in
    let old = c.args.seat.now in
    let new = c.peek-shown.new.seat in
    holds-on old new c.args.running.guard.ticket (faults_in g.T.Board.fault_count g.C.Cell.fault_count part.table part.cells.items) c.args.running.job.call (map g.C.Cell.state part.cells.items) (option_map viewed part.table) c.requires.holds
    (gone_on old new [] c.peek-shown.ensures.later (append-nil old.own ∙ sym c.peek-shown.ensures.own)) c.peek-shown.ensures.own
