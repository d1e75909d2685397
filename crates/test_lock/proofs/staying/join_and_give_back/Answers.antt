use Rattle.std.proofs.Common.{◌≡◌, [], map, ap, sym, ◌∙◌}
use Rattle.std.specs.Prelude.{option_map}
use Rattle.std.proofs.lemmas.List.{append-nil}
use Rattle.st_book.specs.View.{TableView}
use Rattle.st_lock.specs.Held.{faults_in}
use Rattle.st_lock.specs.Seats.{LockSeat}
use Rattle.st_lock.proofs.Staying.{gone_on-joined}
use Rattle.test_lock.proofs.Later.{holds-on}
use Rattle.test_lock.proofs.staying.join_and_give_back.Goals as goal

pub give_back-requires-clause-holds : goal.give_back-requires-clause-holds
give_back-requires-clause-holds g c κs within =
    let viewed = λ (t : g.row.T.Denot). let x : TableView = record { state = g.T.Board.stands t; slack = g.T.Board.slack t } in x in
    let part = c.args.running.guard.part in
    let old = c.args.seat.now in
    let joined = c.join.new.seat in
    let new = c.peek-shown.new.seat in
    let is = c.join.ensures.both in
    let same : joined.own ≡ old.own = ap (λ (v : LockSeat). v.own) is in
    let own : new.own ≡ old.own = c.peek-shown.ensures.own ∙ same in
    holds-on old new c.args.running.guard.ticket (faults_in g.T.Board.fault_count g.C.Cell.fault_count part.table part.cells.items) c.args.running.job.call (map g.C.Cell.state part.cells.items) (option_map viewed part.table) c.requires.holds
    (gone_on-joined old joined new [] (ap (λ (v : LockSeat). v.number) is) (ap (λ (v : LockSeat). v.opening) is) c.join.ensures.seen.0 same c.peek-shown.ensures.later (append-nil old.own ∙ sym own)) own
