use Rattle.std.proofs.Common.{◌≡◌, List, [], ap, sym, ◌∙◌, subst}
use Rattle.std.proofs.lemmas.List.{append-nil}
use Rattle.st_wants.specs.Lock.{start}
use Rattle.st_wants.specs.Rules.{lock_run}
use Rattle.st_history.specs.declared.log.Event.{Event}
use Rattle.st_history.specs.History.{History, moves_of}
use Rattle.st_lock.specs.Closing.{IsAccount}
use Rattle.st_lock.specs.Opening.{events_of, noted_of}
use Rattle.st_lock.specs.Seats.{LockSeat, lock_seat, opened}
use Rattle.st_lock.proofs.LastLook.{book_seen, quiet_book, none_least, plain-account}
use Rattle.st_lock.proofs.Turns.{events-noted, is_open}
use Rattle.st_lock.proofs.lock.AllOrSome.end.Goals as goal

pub unreachable-requires-in-Err-close : goal.unreachable-requires-in-Err-close
unreachable-requires-in-Err-close g c =
    let u = c.seat.inside.seat in
    let v : LockSeat = lock_seat u in
    let b = c.in-Ok.field-0.book in
    let lent = c.in-Ok.ensures.book in
    let fits = lent.fitting (opened u.opening) (is_open u.opening c.seat.invariant.1) in
    let seen : noted_of b ≡ v.seen = book_seen v b lent.seen lent.own (rw (← c.seat.view_is) at c.requires.heard) lent.taken_over (rw (← c.seat.view_is) at c.requires.account) c.in-Ok.ensures.mine in
    let quiet = quiet_book v b seen fits.stands.lock (rw (← c.seat.view_is) at c.requires.released) in
    none_least b.lock.rows c.in-Err-close.field-0.1 quiet c.in-Err-close.ensures.left.1

pub returns-clause-quiet : goal.returns-clause-quiet
returns-clause-quiet g c =
    let u = c.seat.inside.seat in
    let v : LockSeat = lock_seat u in
    let b = c.in-Ok.field-0.book in
    let lent = c.in-Ok.ensures.book in
    let fits = lent.fitting (opened u.opening) (is_open u.opening c.seat.invariant.1) in
    let heard = rw (← c.seat.view_is) at c.requires.heard in
    let told = rw (← c.seat.view_is) at c.requires.account in
    let mine = rw (← c.seat.view_is) at c.requires.mine in
    let seen : noted_of b ≡ v.seen = book_seen v b lent.seen lent.own heard lent.taken_over told c.in-Ok.ensures.mine in
    let log : events_of v.seen ≡ c.in-Ok-close.log.items = sym (ap events_of seen) ∙ (events-noted b.log b.notes ∙ sym c.in-Ok-close.ensures.log) in
    let stands = c.in-Ok-close.ensures.stands (opened u.opening).state (opened u.opening).base fits.stands in
    rw (← c.seat.view_is) (record {
      alone = rw (← c.seat.view_is) at c.requires.alone;
      seen = ([], append-nil (events_of v.seen) ∙ log);
      account = subst (IsAccount v) log (plain-account v v.seen heard told mine);
      history = subst (λ (z : List Event). History v.opening.state z) (sym c.in-Ok-close.ensures.log) fits.stands.history;
      released = ap (λ z. (lock_run start (moves_of z)).rows) (sym log) ∙ (rw (← c.seat.view_is) at c.requires.released);
      part = stands.0;
      slack = stands.1;
      faults_are = stands.2;
    })
