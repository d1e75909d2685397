use Rattle.std.proofs.Common.{◌≡◌, [], ◌∷◌, ◌++◌}
use Rattle.std.specs.Prelude.{Some}
use Rattle.st_lock.specs.Seats.{opened, plain}
use Rattle.st_history.specs.declared.log.Event.TheVariants.{Arrive}
use Rattle.st_lock.proofs.Turns.{arrive_goes, arrive_own, by_is, fits_still, is_open, row_arrived, ticket_ok, ticket_err, turn_later}
use Rattle.st_wants.specs.Lock.{new_row}
use Rattle.st_history.specs.Own.{row_told}
use Rattle.st_lock.specs.Opening.{events_of}
use Rattle.st_lock.proofs.lock.AllOrSome.arrive.Goals as goal

pub put-requires-clause-book : goal.put-requires-clause-book
put-requires-clause-book g c =
    let number : c.number.result ≡ c.seat.inside.seat.number = rw c.take-book.ensures.view at c.number.ensures in
    let m = arrive_goes c.arrive-arrived.result c.take-book.result.book c.arrive-arrived.new.self c.number.result c.args.want c.arrive-arrived.ensures.ticket c.arrive-arrived.ensures.ok c.arrive-arrived.ensures.err in
    rw c.take-book.ensures.view (
      m.0,
      record {
        goes = m.1;
        own = by_is c.number.result c.seat.inside.seat.number m.0 number m.2;
        fitting = λ o is. fits_still o c.take-book.result.book c.arrive-arrived.new.self c.arrive-arrived.ensures.stands (c.take-book.ensures.book.fitting o is);
      },
    )

pub returns-clause-later : goal.returns-clause-later
returns-clause-later g c =
    let v = c.seat.inside.seat in
    let number : c.number.result ≡ c.seat.inside.seat.number = rw c.take-book.ensures.view at c.number.ensures in
    let m = arrive_goes c.arrive-arrived.result c.take-book.result.book c.arrive-arrived.new.self c.number.result c.args.want c.arrive-arrived.ensures.ticket c.arrive-arrived.ensures.ok c.arrive-arrived.ensures.err in
    let fits = fits_still (opened v.opening) c.take-book.result.book c.arrive-arrived.new.self c.arrive-arrived.ensures.stands (c.take-book.ensures.book.fitting (opened v.opening) (is_open v.opening c.seat.invariant.1)) in
    rw (← c.seat.view_is) (turn_later v c.take-book.new.seat c.put.new.seat c.take-book.result.book c.arrive-arrived.new.self m.0 c.take-book.ensures.view c.put.ensures.view m.1 c.take-book.ensures.book.seen c.take-book.ensures.book.own (by_is c.number.result v.number m.0 number m.2) fits).0

pub returns-clause-own : goal.returns-clause-own
returns-clause-own g c =
    let v = c.seat.inside.seat in
    let number : c.number.result ≡ c.seat.inside.seat.number = rw c.take-book.ensures.view at c.number.ensures in
    let m = arrive_goes c.arrive-arrived.result c.take-book.result.book c.arrive-arrived.new.self c.number.result c.args.want c.arrive-arrived.ensures.ticket c.arrive-arrived.ensures.ok c.arrive-arrived.ensures.err in
    let fits = fits_still (opened v.opening) c.take-book.result.book c.arrive-arrived.new.self c.arrive-arrived.ensures.stands (c.take-book.ensures.book.fitting (opened v.opening) (is_open v.opening c.seat.invariant.1)) in
    let new = (turn_later v c.take-book.new.seat c.put.new.seat c.take-book.result.book c.arrive-arrived.new.self m.0 c.take-book.ensures.view c.put.ensures.view m.1 c.take-book.ensures.book.seen c.take-book.ensures.book.own (by_is c.number.result v.number m.0 number m.2) fits).1 in
    let both = arrive_own c.arrive-arrived.result c.number.result v.number c.args.want m.0 v.own c.put.new.seat.own number m.3 m.4 new in
    rw (← c.seat.view_is) (ticket_ok c.arrive-arrived.result c.ticket_of.result (λ t. c.put.new.seat.own ≡ v.own ++ plain (Arrive v.number t c.args.want) ∷ []) c.ticket_of.ensures.ok both.0)

pub returns-clause-row : goal.returns-clause-row
returns-clause-row g c =
    let v = c.seat.inside.seat in
    let number : c.number.result ≡ c.seat.inside.seat.number = rw c.take-book.ensures.view at c.number.ensures in
    let m = arrive_goes c.arrive-arrived.result c.take-book.result.book c.arrive-arrived.new.self c.number.result c.args.want c.arrive-arrived.ensures.ticket c.arrive-arrived.ensures.ok c.arrive-arrived.ensures.err in
    let fits = fits_still (opened v.opening) c.take-book.result.book c.arrive-arrived.new.self c.arrive-arrived.ensures.stands (c.take-book.ensures.book.fitting (opened v.opening) (is_open v.opening c.seat.invariant.1)) in
    let new = (turn_later v c.take-book.new.seat c.put.new.seat c.take-book.result.book c.arrive-arrived.new.self m.0 c.take-book.ensures.view c.put.ensures.view m.1 c.take-book.ensures.book.seen c.take-book.ensures.book.own (by_is c.number.result v.number m.0 number m.2) fits).1 in
    let both = arrive_own c.arrive-arrived.result c.number.result v.number c.args.want m.0 v.own c.put.new.seat.own number m.3 m.4 new in
    rw (← c.seat.view_is) (ticket_ok c.arrive-arrived.result c.ticket_of.result (λ t. row_told t (events_of c.put.new.seat.own) ≡ Some (new_row t v.number c.args.want)) c.ticket_of.ensures.ok (row_arrived c.arrive-arrived.result v.number c.args.want v.own c.put.new.seat.own both.0))

pub returns-clause-same : goal.returns-clause-same
returns-clause-same g c =
    let v = c.seat.inside.seat in
    let number : c.number.result ≡ c.seat.inside.seat.number = rw c.take-book.ensures.view at c.number.ensures in
    let m = arrive_goes c.arrive-arrived.result c.take-book.result.book c.arrive-arrived.new.self c.number.result c.args.want c.arrive-arrived.ensures.ticket c.arrive-arrived.ensures.ok c.arrive-arrived.ensures.err in
    let fits = fits_still (opened v.opening) c.take-book.result.book c.arrive-arrived.new.self c.arrive-arrived.ensures.stands (c.take-book.ensures.book.fitting (opened v.opening) (is_open v.opening c.seat.invariant.1)) in
    let new = (turn_later v c.take-book.new.seat c.put.new.seat c.take-book.result.book c.arrive-arrived.new.self m.0 c.take-book.ensures.view c.put.ensures.view m.1 c.take-book.ensures.book.seen c.take-book.ensures.book.own (by_is c.number.result v.number m.0 number m.2) fits).1 in
    let both = arrive_own c.arrive-arrived.result c.number.result v.number c.args.want m.0 v.own c.put.new.seat.own number m.3 m.4 new in
    rw (← c.seat.view_is) (ticket_err c.arrive-arrived.result c.ticket_of.result (c.put.new.seat.own ≡ v.own) c.ticket_of.ensures.err both.1)
