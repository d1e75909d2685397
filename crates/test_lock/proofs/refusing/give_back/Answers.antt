use Rattle.std.proofs.Common.{◌≡◌, true, map, refl}
use Rattle.std.specs.Prelude.{option_map}
use Rattle.st_wants.specs.declared.row.LockRow.{LockRow}
use Rattle.st_wants.specs.Wants.{writes}
use Rattle.st_grants.proofs.Sound.{some_and}
use Rattle.st_model.specs.Wanted.{want_of}
use Rattle.st_book.specs.View.{TableView}
use Rattle.st_lock.specs.Held.{faults_in}
use Rattle.st_lock.specs.Seats.{own_row, state_at}
use Rattle.test_lock.proofs.Refusals.{alone_in, back_with, rose_with, spare, spares}
use Rattle.test_lock.proofs.refusing.give_back.Goals as goal

pub release-requires-clause-back : goal.release-requires-clause-back
release-requires-clause-back g c κs within =
    let viewed = λ (t : g.row.T.Denot). let x : TableView = record { state = g.T.Board.stands t; slack = g.T.Board.slack t } in x in
    let v = c.args.seat.now in
    let run = c.args.running in
    let h = c.requires.holds in
    let alone = alone_in run.job.entries.items c.put.new.self.items c.refused_entry.result run.job.empty c.put.ensures.items in
    let own = some_and (λ (r : LockRow). (r.live ≡ true) × (r.want ≡ want_of run.job.call)) (own_row run.guard.ticket v) h.row in
    rw own.1 (rw own.2.1 (back_with (want_of run.job.call) (state_at v) v.opening.base run.job.line run.job.call c.refused_entry.result c.put.new.self.items (map g.C.Cell.state run.guard.part.cells.items) (option_map viewed run.guard.part.table) c.refused_entry.ensures alone refl h.part h.slack))

pub release-requires-clause-spares : goal.release-requires-clause-spares
release-requires-clause-spares g c κs within =
    let run = c.args.running in
    spares g.C.Cell.state g.C.Named.named g.met.C.Cell.name_is g.C.Cell.has_spare (writes (want_of run.job.call)) (state_at c.args.seat.now) run.guard.part.cells.items c.requires.holds.part.pools

pub release-requires-clause-spare : goal.release-requires-clause-spare
release-requires-clause-spare g c κs within =
    let run = c.args.running in
    spare g.T.Board.stands g.T.Board.slack g.T.Board.has_spare (want_of run.job.call) (state_at c.args.seat.now) (map g.C.Cell.state run.guard.part.cells.items) run.guard.part.table c.requires.holds.part

pub release-requires-clause-rose : goal.release-requires-clause-rose
release-requires-clause-rose g c κs within =
    let run = c.args.running in
    let h = c.requires.holds in
    let alone = alone_in run.job.entries.items c.put.new.self.items c.refused_entry.result run.job.empty c.put.ensures.items in
    let faults = faults_in g.T.Board.fault_count g.C.Cell.fault_count run.guard.part.table run.guard.part.cells.items in
    rose_with c.args.seat.now run.guard.ticket h.number run.job.line faults run.job.call c.refused_entry.result c.put.new.self.items c.refused_entry.ensures alone h.noted h.whole
