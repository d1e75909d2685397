use Rattle.std.proofs.Common.{◌≡◌, true, Some}
use Rattle.st_wants.specs.declared.row.LockRow.{LockRow}
use Rattle.st_grants.proofs.Sound.{some_and}
use Rattle.st_model.specs.Wanted.{want_of}
use Rattle.st_plain.specs.Views.{pools_of}
use Rattle.st_lock.specs.Seats.{own_row, state_at}
use Rattle.test_lock.proofs.Created.{all-kept, made-back, made-rose, made-spares, no-base, part-of}
use Rattle.test_lock.proofs.Refusals.{alone_in}
use Rattle.test_lock.proofs.creating.create_and_release.Goals as goal

pub release-requires-clause-back : goal.release-requires-clause-back
release-requires-clause-back g c κs within =
    let v = c.args.seat.now in
    let run = c.args.running in
    let h = c.requires.holds in
    let held = part-of run.job.call (state_at v) (pools_of run.guard.part.cells.items) run.guard.part.table c.in-Some.table c.requires.creation c.in-Some.is h.part in
    let made = c.create_on.ensures.made (state_at v) h.valid held in
    let alone = alone_in run.job.entries.items c.put.new.self.items c.create_on.result run.job.empty c.put.ensures.items in
    let own = some_and (λ (r : LockRow). (r.live ≡ true) × (r.want ≡ want_of run.job.call)) (own_row run.guard.ticket v) h.row in
    rw own.1 (rw own.2.1 (made-back (state_at v) v.opening.base run.job.call run.job.line c.create_on.result c.put.new.self.items c.create_on.new.cells.items c.create_on.new.table c.requires.creation (no-base v.opening.base run.guard.part.table c.in-Some.table c.in-Some.is h.slack) alone made))

pub release-requires-clause-spares : goal.release-requires-clause-spares
release-requires-clause-spares g c κs within =
    let v = c.args.seat.now in
    let run = c.args.running in
    let h = c.requires.holds in
    let held = part-of run.job.call (state_at v) (pools_of run.guard.part.cells.items) run.guard.part.table c.in-Some.table c.requires.creation c.in-Some.is h.part in
    let made = c.create_on.ensures.made (state_at v) h.valid held in
    made-spares (state_at v) c.create_on.new.cells.items made.infos

pub release-requires-clause-rose : goal.release-requires-clause-rose
release-requires-clause-rose g c κs within =
    let v = c.args.seat.now in
    let run = c.args.running in
    let h = c.requires.holds in
    let held = part-of run.job.call (state_at v) (pools_of run.guard.part.cells.items) run.guard.part.table c.in-Some.table c.requires.creation c.in-Some.is h.part in
    let made = c.create_on.ensures.made (state_at v) h.valid held in
    let alone = alone_in run.job.entries.items c.put.new.self.items c.create_on.result run.job.empty c.put.ensures.items in
    made-rose v run.guard.ticket run.job.call run.job.line c.create_on.result c.put.new.self.items _ _ run.guard.part.cells.items c.create_on.new.cells.items run.guard.part.table (Some c.create_on.new.table) c.requires.creation alone made.models h

pub release-requires-clause-kept : goal.release-requires-clause-kept
release-requires-clause-kept g c κs within = (all-kept c.create_on.new.cells.items, tt)

pub returns-clause-run : goal.returns-clause-run
returns-clause-run g c =
    let v = c.args.seat.now in
    let run = c.args.running in
    let h = c.requires.holds in
    let held = part-of run.job.call (state_at v) (pools_of run.guard.part.cells.items) run.guard.part.table c.in-Some.table c.requires.creation c.in-Some.is h.part in
    let made = c.create_on.ensures.made (state_at v) h.valid held in
    let alone = alone_in run.job.entries.items c.put.new.self.items c.create_on.result run.job.empty c.put.ensures.items in
    (c.create_on.result, record { entries = c.put.new.self; one = alone; own = c.release.ensures.own }, made.models)
