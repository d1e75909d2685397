use Rattle.std.proofs.Common.{◌≡◌, [], ap, sym, ◌∙◌, subst}
use Rattle.std.specs.Prelude.{IfSome, IfNone}
use Rattle.std.proofs.lemmas.List.{append-nil}
use Rattle.st_turn.specs.Views.{with_others}
use Rattle.st_wants.specs.Lock.{Lock, start}
use Rattle.st_wants.specs.Rules.{lock_run}
use Rattle.st_grants.specs.Order.{IsLeastTicket}
use Rattle.st_history.specs.History.{moves_of}
use Rattle.st_lock.specs.Opening.{events_of, noted_of}
use Rattle.st_lock.specs.Seats.{opened}
use Rattle.st_lock.proofs.Turns.{events-noted, is_open, turn_later}
use Rattle.st_lock.proofs.lock.AllOrSome.unreleased.Goals as goal

pub put-requires-clause-book : goal.put-requires-clause-book
put-requires-clause-book g c =
    rw c.in-Ok.ensures.view ([], record { goes = sym (append-nil (noted_of c.in-Ok.field-0.book)); own = tt; fitting = λ o is. c.in-Ok.ensures.book.fitting o is })

pub returns-clause-later : goal.returns-clause-later
returns-clause-later g c =
    let u = c.seat.inside.seat in
    let b = c.in-Ok.field-0.book in
    let lent = c.in-Ok.ensures.book in
    let fits = lent.fitting (opened u.opening) (is_open u.opening c.seat.invariant.1) in
    rw (← c.seat.view_is) (turn_later (with_others u 0) c.take_last.new.seat c.put.new.seat b b [] c.in-Ok.ensures.view c.put.ensures.view (sym (append-nil (noted_of b))) lent.seen lent.own tt fits).0

pub returns-clause-own : goal.returns-clause-own
returns-clause-own g c =
    let u = c.seat.inside.seat in
    let b = c.in-Ok.field-0.book in
    let lent = c.in-Ok.ensures.book in
    let fits = lent.fitting (opened u.opening) (is_open u.opening c.seat.invariant.1) in
    let x = turn_later (with_others u 0) c.take_last.new.seat c.put.new.seat b b [] c.in-Ok.ensures.view c.put.ensures.view (sym (append-nil (noted_of b))) lent.seen lent.own tt fits in
    rw (← c.seat.view_is) (x.1 ∙ append-nil u.own)

pub returns-clause-account : goal.returns-clause-account
returns-clause-account g c =
    rw (c.put.ensures.view, c.in-Ok.ensures.view) c.in-Ok.ensures.book.taken_over

pub returns-clause-mine : goal.returns-clause-mine
returns-clause-mine g c = rw (c.put.ensures.view, c.in-Ok.ensures.view) c.in-Ok.ensures.mine

pub returns-clause-least : goal.returns-clause-least
returns-clause-least g c =
    let u = c.seat.inside.seat in
    let b = c.in-Ok.field-0.book in
    let lent = c.in-Ok.ensures.book in
    let fits = lent.fitting (opened u.opening) (is_open u.opening c.seat.invariant.1) in
    let x = turn_later (with_others u 0) c.take_last.new.seat c.put.new.seat b b [] c.in-Ok.ensures.view c.put.ensures.view (sym (append-nil (noted_of b))) lent.seen lent.own tt fits in
    let log : b.log ≡ events_of c.put.new.seat.seen = sym (ap events_of x.2 ∙ events-noted b.log b.notes) in
    let lock : b.lock ≡ lock_run start (moves_of (events_of c.put.new.seat.seen)) = fits.stands.lock ∙ ap (λ z. lock_run start (moves_of z)) log in
    subst (λ (l : Lock). IfSome c.unreleased-left.result (IsLeastTicket l.rows)) lock c.unreleased-left.ensures.some

pub returns-clause-none : goal.returns-clause-none
returns-clause-none g c =
    let u = c.seat.inside.seat in
    let b = c.in-Ok.field-0.book in
    let lent = c.in-Ok.ensures.book in
    let fits = lent.fitting (opened u.opening) (is_open u.opening c.seat.invariant.1) in
    let x = turn_later (with_others u 0) c.take_last.new.seat c.put.new.seat b b [] c.in-Ok.ensures.view c.put.ensures.view (sym (append-nil (noted_of b))) lent.seen lent.own tt fits in
    let log : b.log ≡ events_of c.put.new.seat.seen = sym (ap events_of x.2 ∙ events-noted b.log b.notes) in
    let lock : b.lock ≡ lock_run start (moves_of (events_of c.put.new.seat.seen)) = fits.stands.lock ∙ ap (λ z. lock_run start (moves_of z)) log in
    subst (λ (l : Lock). IfNone c.unreleased-left.result (l.rows ≡ [])) lock c.unreleased-left.ensures.none
