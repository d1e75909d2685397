use Rattle.std.proofs.Common.{◌≡◌, true}
use Rattle.st_wants.specs.declared.row.LockRow.{LockRow}
use Rattle.st_grants.proofs.Sound.{some_and}
use Rattle.st_model.specs.Wanted.{want_of}
use Rattle.st_plain.specs.Views.{TableView, pools_of}
use Rattle.st_lock.specs.Seats.{own_row, state_at}
use Rattle.test_lock.proofs.Created.{all-kept, calm-rose, made-spares, table-kept}
use Rattle.test_lock.proofs.Refusals.{alone_in, spare}
use Rattle.test_lock.proofs.Limits.{held_of, set_back, set_calm}
use Rattle.test_lock.proofs.setting.set_and_release.Goals as goal

pub set_on-requires-clause-stands : goal.set_on-requires-clause-stands
set_on-requires-clause-stands g c =
    let v = c.args.seat.now in
    let run = c.args.running in
    let h = c.requires.holds in
    (state_at v, h.valid, held_of (state_at v) run.job.call run.guard.part.cells.items run.guard.part.table h.part)

pub release-requires-clause-back : goal.release-requires-clause-back
release-requires-clause-back g c κs within =
    let v = c.args.seat.now in
    let run = c.args.running in
    let h = c.requires.holds in
    let set = c.set_on.ensures (state_at v) (held_of (state_at v) run.job.call run.guard.part.cells.items run.guard.part.table h.part) in
    let alone = alone_in run.job.entries.items c.put.new.self.items c.set_on.result run.job.empty c.put.ensures.items in
    let own = some_and (λ (r : LockRow). (r.live ≡ true) × (r.want ≡ want_of run.job.call)) (own_row run.guard.ticket v) h.row in
    rw own.1 (rw own.2.1 (set_back (state_at v) v.opening.base run.job.call run.job.line c.set_on.result c.put.new.self.items (pools_of run.guard.part.cells.items) c.set_on.new.cells.items run.guard.part.table c.requires.setting alone h.part h.slack set))

pub release-requires-clause-spares : goal.release-requires-clause-spares
release-requires-clause-spares g c κs within =
    let v = c.args.seat.now in
    let run = c.args.running in
    let h = c.requires.holds in
    let set = c.set_on.ensures (state_at v) (held_of (state_at v) run.job.call run.guard.part.cells.items run.guard.part.table h.part) in
    made-spares (state_at v) c.set_on.new.cells.items set.infos

pub release-requires-clause-spare : goal.release-requires-clause-spare
release-requires-clause-spare g c κs within =
    let run = c.args.running in
    spare (λ (t : TableView). t.state) (λ (t : TableView). 0) (λ (t : TableView). t.spare) (want_of run.job.call) (state_at c.args.seat.now) (pools_of run.guard.part.cells.items) run.guard.part.table c.requires.holds.part

pub release-requires-clause-rose : goal.release-requires-clause-rose
release-requires-clause-rose g c κs within =
    let v = c.args.seat.now in
    let run = c.args.running in
    let h = c.requires.holds in
    let set = c.set_on.ensures (state_at v) (held_of (state_at v) run.job.call run.guard.part.cells.items run.guard.part.table h.part) in
    let alone = alone_in run.job.entries.items c.put.new.self.items c.set_on.result run.job.empty c.put.ensures.items in
    calm-rose v run.guard.ticket run.job.call c.set_on.result c.put.new.self.items _ _ run.guard.part.cells.items c.set_on.new.cells.items run.guard.part.table run.guard.part.table alone
    (set_calm (state_at v) run.job.call run.job.line c.set_on.result c.requires.setting set.models) h

pub release-requires-clause-kept : goal.release-requires-clause-kept
release-requires-clause-kept g c κs within = (all-kept c.set_on.new.cells.items, table-kept c.args.running.guard.part.table)

pub returns-clause-run : goal.returns-clause-run
returns-clause-run g c =
    let v = c.args.seat.now in
    let run = c.args.running in
    let h = c.requires.holds in
    let set = c.set_on.ensures (state_at v) (held_of (state_at v) run.job.call run.guard.part.cells.items run.guard.part.table h.part) in
    let alone = alone_in run.job.entries.items c.put.new.self.items c.set_on.result run.job.empty c.put.ensures.items in
    (c.set_on.result, record { entries = c.put.new.self; one = alone; own = c.release.ensures.own }, set.models)
