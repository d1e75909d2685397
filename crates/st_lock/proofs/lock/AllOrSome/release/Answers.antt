use Rattle.std.proofs.Common.{[], ◌∷◌, ◌∙◌, length, map}
use Rattle.std.specs.Prelude.{option_map}
use Rattle.st_book.specs.View.{TableView}
use Rattle.st_history.specs.declared.log.Event.TheVariants.{Release}
use Rattle.st_lock.specs.Held.{faults_in}
use Rattle.st_lock.specs.Opening.{noted_of}
use Rattle.st_lock.specs.Seats.{LockSeat, lock_seat, opened, plain, state_at}
use Rattle.st_history.specs.History.{replay}
use Rattle.st_lock.proofs.Turns.{release_goes, fits_after, fits_of, is_open, turn_later}
use Rattle.st_lock.proofs.Back.{Meets, meets, spares-over, table_over, fitting_here, few_here}
use Rattle.st_lock.proofs.lock.AllOrSome.release.Goals as goal

pub release-requires-clause-live : goal.release-requires-clause-live
release-requires-clause-live g c κs within =
    let u = c.seat.inside.seat in
    let v : LockSeat = lock_seat u in
    let b = c.take-book.result.book in
    let viewed = λ (t : g.row.T.Denot). let x : TableView = record { state = g.T.Board.stands t; slack = g.T.Board.slack t } in x in
    let cells = map g.C.Cell.state c.args.guard.part.cells.items in
    let table = option_map viewed c.args.guard.part.table in
    let faults = faults_in g.T.Board.fault_count g.C.Cell.fault_count c.args.guard.part.table c.args.guard.part.cells.items in
    let lent = c.take-book.ensures.book in
    let fits = lent.fitting (opened u.opening) (is_open u.opening c.seat.invariant.1) in
    let m : Meets v b c.args.guard.ticket c.args.entries.items cells table faults = meets v b c.args.guard.ticket c.args.entries.items cells table faults lent.seen lent.own fits
    (rw (← c.seat.view_is) at c.requires.live) (rw (← c.seat.view_is) at c.requires.heard) (rw (← c.seat.view_is) at c.requires.back) (rw (← c.seat.view_is) at c.requires.rose) in
    rw m.at m.live

pub release-requires-clause-fitting : goal.release-requires-clause-fitting
release-requires-clause-fitting g c κs within =
    let u = c.seat.inside.seat in
    let v : LockSeat = lock_seat u in
    let b = c.take-book.result.book in
    let viewed = λ (t : g.row.T.Denot). let x : TableView = record { state = g.T.Board.stands t; slack = g.T.Board.slack t } in x in
    let cells = map g.C.Cell.state c.args.guard.part.cells.items in
    let table = option_map viewed c.args.guard.part.table in
    let faults = faults_in g.T.Board.fault_count g.C.Cell.fault_count c.args.guard.part.table c.args.guard.part.cells.items in
    let lent = c.take-book.ensures.book in
    let fits = lent.fitting (opened u.opening) (is_open u.opening c.seat.invariant.1) in
    let m : Meets v b c.args.guard.ticket c.args.entries.items cells table faults = meets v b c.args.guard.ticket c.args.entries.items cells table faults lent.seen lent.own fits
    (rw (← c.seat.view_is) at c.requires.live) (rw (← c.seat.view_is) at c.requires.heard) (rw (← c.seat.view_is) at c.requires.back) (rw (← c.seat.view_is) at c.requires.rose) in
    rw m.at (fitting_here viewed m.row.want c.args.guard.part.table m.fitting)

pub release-requires-clause-few : goal.release-requires-clause-few
release-requires-clause-few g c κs within =
    let u = c.seat.inside.seat in
    let v : LockSeat = lock_seat u in
    let b = c.take-book.result.book in
    let viewed = λ (t : g.row.T.Denot). let x : TableView = record { state = g.T.Board.stands t; slack = g.T.Board.slack t } in x in
    let cells = map g.C.Cell.state c.args.guard.part.cells.items in
    let table = option_map viewed c.args.guard.part.table in
    let faults = faults_in g.T.Board.fault_count g.C.Cell.fault_count c.args.guard.part.table c.args.guard.part.cells.items in
    let lent = c.take-book.ensures.book in
    let fits = lent.fitting (opened u.opening) (is_open u.opening c.seat.invariant.1) in
    let m : Meets v b c.args.guard.ticket c.args.entries.items cells table faults = meets v b c.args.guard.ticket c.args.entries.items cells table faults lent.seen lent.own fits
    (rw (← c.seat.view_is) at c.requires.live) (rw (← c.seat.view_is) at c.requires.heard) (rw (← c.seat.view_is) at c.requires.back) (rw (← c.seat.view_is) at c.requires.rose) in
    few_here g.C.Cell.state (length b.cells) c.args.guard.part.cells.items m.few

pub put-requires-clause-book : goal.put-requires-clause-book
put-requires-clause-book g c =
    let u = c.seat.inside.seat in
    let v : LockSeat = lock_seat u in
    let b = c.take-book.result.book in
    let viewed = λ (t : g.row.T.Denot). let x : TableView = record { state = g.T.Board.stands t; slack = g.T.Board.slack t } in x in
    let cells = map g.C.Cell.state c.args.guard.part.cells.items in
    let table = option_map viewed c.args.guard.part.table in
    let faults = faults_in g.T.Board.fault_count g.C.Cell.fault_count c.args.guard.part.table c.args.guard.part.cells.items in
    let lent = c.take-book.ensures.book in
    let fits = lent.fitting (opened u.opening) (is_open u.opening c.seat.invariant.1) in
    let m : Meets v b c.args.guard.ticket c.args.entries.items cells table faults = meets v b c.args.guard.ticket c.args.entries.items cells table faults lent.seen lent.own fits
    (rw (← c.seat.view_is) at c.requires.live) (rw (← c.seat.view_is) at c.requires.heard) (rw (← c.seat.view_is) at c.requires.back) (rw (← c.seat.view_is) at c.requires.rose) in
    let n = c.release.new.self in
    let spares = spares-over g.C.Cell.state g.C.Named.named g.met.C.Cell.name_is g.C.Cell.has_spare (state_at v) (replay v.opening.state b.log) b.infos c.args.guard.part.cells.items fits.stands.infos m.same (rw (← c.seat.view_is) at c.requires.spares) in
    let spare = table_over g.T.Board.stands g.T.Board.has_spare (state_at v) (replay v.opening.state b.log) b.table_info c.args.guard.part.table m.board fits.stands.table_info (rw (← c.seat.view_is) at c.requires.spare) in
    let stands = c.release.ensures.stands (opened u.opening).state (opened u.opening).base fits.stands (rw m.at m.back) spares spare m.counts in
    let more = release_goes b n c.args.guard.ticket v.number m.row c.args.entries m.at m.seat c.release.ensures.log c.release.ensures.notes in
    let fits' = fits_after (opened u.opening) b n fits stands in
    rw c.take-book.ensures.view (
      plain (Release v.number c.args.guard.ticket c.args.entries) ∷ [],
      record {
        goes = more.0;
        own = more.1;
        fitting = λ o is. fits_of u.opening o n is fits';
      },
    )

pub returns-clause-later : goal.returns-clause-later
returns-clause-later g c =
    let u = c.seat.inside.seat in
    let v : LockSeat = lock_seat u in
    let b = c.take-book.result.book in
    let viewed = λ (t : g.row.T.Denot). let x : TableView = record { state = g.T.Board.stands t; slack = g.T.Board.slack t } in x in
    let cells = map g.C.Cell.state c.args.guard.part.cells.items in
    let table = option_map viewed c.args.guard.part.table in
    let faults = faults_in g.T.Board.fault_count g.C.Cell.fault_count c.args.guard.part.table c.args.guard.part.cells.items in
    let lent = c.take-book.ensures.book in
    let fits = lent.fitting (opened u.opening) (is_open u.opening c.seat.invariant.1) in
    let m : Meets v b c.args.guard.ticket c.args.entries.items cells table faults = meets v b c.args.guard.ticket c.args.entries.items cells table faults lent.seen lent.own fits
    (rw (← c.seat.view_is) at c.requires.live) (rw (← c.seat.view_is) at c.requires.heard) (rw (← c.seat.view_is) at c.requires.back) (rw (← c.seat.view_is) at c.requires.rose) in
    let n = c.release.new.self in
    let spares = spares-over g.C.Cell.state g.C.Named.named g.met.C.Cell.name_is g.C.Cell.has_spare (state_at v) (replay v.opening.state b.log) b.infos c.args.guard.part.cells.items fits.stands.infos m.same (rw (← c.seat.view_is) at c.requires.spares) in
    let spare = table_over g.T.Board.stands g.T.Board.has_spare (state_at v) (replay v.opening.state b.log) b.table_info c.args.guard.part.table m.board fits.stands.table_info (rw (← c.seat.view_is) at c.requires.spare) in
    let stands = c.release.ensures.stands (opened u.opening).state (opened u.opening).base fits.stands (rw m.at m.back) spares spare m.counts in
    let more = release_goes b n c.args.guard.ticket v.number m.row c.args.entries m.at m.seat c.release.ensures.log c.release.ensures.notes in
    let fits' = fits_after (opened u.opening) b n fits stands in
    rw (← c.seat.view_is) (turn_later u c.take-book.new.seat c.put.new.seat b n _ c.take-book.ensures.view c.put.ensures.view more.0 lent.seen lent.own more.1 fits').0

pub returns-clause-own : goal.returns-clause-own
returns-clause-own g c =
    let u = c.seat.inside.seat in
    let v : LockSeat = lock_seat u in
    let b = c.take-book.result.book in
    let viewed = λ (t : g.row.T.Denot). let x : TableView = record { state = g.T.Board.stands t; slack = g.T.Board.slack t } in x in
    let cells = map g.C.Cell.state c.args.guard.part.cells.items in
    let table = option_map viewed c.args.guard.part.table in
    let faults = faults_in g.T.Board.fault_count g.C.Cell.fault_count c.args.guard.part.table c.args.guard.part.cells.items in
    let lent = c.take-book.ensures.book in
    let fits = lent.fitting (opened u.opening) (is_open u.opening c.seat.invariant.1) in
    let m : Meets v b c.args.guard.ticket c.args.entries.items cells table faults = meets v b c.args.guard.ticket c.args.entries.items cells table faults lent.seen lent.own fits
    (rw (← c.seat.view_is) at c.requires.live) (rw (← c.seat.view_is) at c.requires.heard) (rw (← c.seat.view_is) at c.requires.back) (rw (← c.seat.view_is) at c.requires.rose) in
    let n = c.release.new.self in
    let spares = spares-over g.C.Cell.state g.C.Named.named g.met.C.Cell.name_is g.C.Cell.has_spare (state_at v) (replay v.opening.state b.log) b.infos c.args.guard.part.cells.items fits.stands.infos m.same (rw (← c.seat.view_is) at c.requires.spares) in
    let spare = table_over g.T.Board.stands g.T.Board.has_spare (state_at v) (replay v.opening.state b.log) b.table_info c.args.guard.part.table m.board fits.stands.table_info (rw (← c.seat.view_is) at c.requires.spare) in
    let stands = c.release.ensures.stands (opened u.opening).state (opened u.opening).base fits.stands (rw m.at m.back) spares spare m.counts in
    let more = release_goes b n c.args.guard.ticket v.number m.row c.args.entries m.at m.seat c.release.ensures.log c.release.ensures.notes in
    let fits' = fits_after (opened u.opening) b n fits stands in
    rw (← c.seat.view_is) (turn_later u c.take-book.new.seat c.put.new.seat b n _ c.take-book.ensures.view c.put.ensures.view more.0 lent.seen lent.own more.1 fits').1

pub returns-clause-last : goal.returns-clause-last
returns-clause-last g c =
    let u = c.seat.inside.seat in
    let v : LockSeat = lock_seat u in
    let b = c.take-book.result.book in
    let viewed = λ (t : g.row.T.Denot). let x : TableView = record { state = g.T.Board.stands t; slack = g.T.Board.slack t } in x in
    let cells = map g.C.Cell.state c.args.guard.part.cells.items in
    let table = option_map viewed c.args.guard.part.table in
    let faults = faults_in g.T.Board.fault_count g.C.Cell.fault_count c.args.guard.part.table c.args.guard.part.cells.items in
    let lent = c.take-book.ensures.book in
    let fits = lent.fitting (opened u.opening) (is_open u.opening c.seat.invariant.1) in
    let m : Meets v b c.args.guard.ticket c.args.entries.items cells table faults = meets v b c.args.guard.ticket c.args.entries.items cells table faults lent.seen lent.own fits
    (rw (← c.seat.view_is) at c.requires.live) (rw (← c.seat.view_is) at c.requires.heard) (rw (← c.seat.view_is) at c.requires.back) (rw (← c.seat.view_is) at c.requires.rose) in
    let n = c.release.new.self in
    let spares = spares-over g.C.Cell.state g.C.Named.named g.met.C.Cell.name_is g.C.Cell.has_spare (state_at v) (replay v.opening.state b.log) b.infos c.args.guard.part.cells.items fits.stands.infos m.same (rw (← c.seat.view_is) at c.requires.spares) in
    let spare = table_over g.T.Board.stands g.T.Board.has_spare (state_at v) (replay v.opening.state b.log) b.table_info c.args.guard.part.table m.board fits.stands.table_info (rw (← c.seat.view_is) at c.requires.spare) in
    let stands = c.release.ensures.stands (opened u.opening).state (opened u.opening).base fits.stands (rw m.at m.back) spares spare m.counts in
    let more = release_goes b n c.args.guard.ticket v.number m.row c.args.entries m.at m.seat c.release.ensures.log c.release.ensures.notes in
    let fits' = fits_after (opened u.opening) b n fits stands in
    let later = turn_later u c.take-book.new.seat c.put.new.seat b n _ c.take-book.ensures.view c.put.ensures.view more.0 lent.seen lent.own more.1 fits' in
    rw (← c.seat.view_is) (noted_of b, later.2 ∙ more.0)
