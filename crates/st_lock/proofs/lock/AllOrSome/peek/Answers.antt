use Rattle.std.proofs.Common.{◌≡◌, [], ◌++◌, ap, sym, ◌∙◌}
use Rattle.std.proofs.lemmas.List.{append-nil}
use Rattle.st_history.specs.History.{replay}
use Rattle.st_model.specs.Parts.{table_of, shown_table}
use Rattle.st_lock.specs.declared.desk.Opening.{Opening}
use Rattle.st_lock.specs.Opening.{events_of, noted_of}
use Rattle.st_lock.specs.Seats.{lock_seat, opened, state_at}
use Rattle.st_lock.proofs.Turns.{fits_of, is_open, turn_later}
use Rattle.st_lock.proofs.Granting.{if_ok, seen_here}
use Rattle.st_lock.proofs.lock.AllOrSome.peek.Goals as goal

pub put-requires-clause-book : goal.put-requires-clause-book
put-requires-clause-book g c =
    let u = c.seat.inside.seat in
    let b = c.take-book.result.book in
    let lent = c.take-book.ensures.book in
    let fits = lent.fitting (opened u.opening) (is_open u.opening c.seat.invariant.1) in
    let nil : noted_of b ≡ noted_of b ++ [] = sym (append-nil (noted_of b)) in
    rw c.take-book.ensures.view ([], record { goes = nil; own = tt; fitting = λ o is. fits_of u.opening o b is fits })

pub returns-clause-later : goal.returns-clause-later
returns-clause-later g c =
    let u = c.seat.inside.seat in
    let b = c.take-book.result.book in
    let lent = c.take-book.ensures.book in
    let fits = lent.fitting (opened u.opening) (is_open u.opening c.seat.invariant.1) in
    let nil : noted_of b ≡ noted_of b ++ [] = sym (append-nil (noted_of b)) in
    let x = turn_later u c.take-book.new.seat c.put.new.seat b b [] c.take-book.ensures.view c.put.ensures.view nil lent.seen lent.own tt fits in
    rw (← c.seat.view_is) x.0

pub returns-clause-own : goal.returns-clause-own
returns-clause-own g c =
    let u = c.seat.inside.seat in
    let b = c.take-book.result.book in
    let lent = c.take-book.ensures.book in
    let fits = lent.fitting (opened u.opening) (is_open u.opening c.seat.invariant.1) in
    let nil : noted_of b ≡ noted_of b ++ [] = sym (append-nil (noted_of b)) in
    let x = turn_later u c.take-book.new.seat c.put.new.seat b b [] c.take-book.ensures.view c.put.ensures.view nil lent.seen lent.own tt fits in
    rw (← c.seat.view_is) (x.1 ∙ append-nil u.own)

pub returns-clause-table : goal.returns-clause-table
returns-clause-table g c =
    let u = c.seat.inside.seat in
    let b = c.take-book.result.book in
    let lent = c.take-book.ensures.book in
    let fits = lent.fitting (opened u.opening) (is_open u.opening c.seat.invariant.1) in
    let nil : noted_of b ≡ noted_of b ++ [] = sym (append-nil (noted_of b)) in
    let x = turn_later u c.take-book.new.seat c.put.new.seat b b [] c.take-book.ensures.view c.put.ensures.view nil lent.seen lent.own tt fits in
    let same : replay (opened u.opening).state b.log ≡ state_at (lock_seat c.put.new.seat) = seen_here (opened u.opening).state b c.put.new.seat.seen x.2 ∙ ap (λ (o : Opening). replay o.state (events_of c.put.new.seat.seen)) (sym x.0.opening) in
    if_ok c.peek-shown.result _ _ (λ p k. k ∙ (fits.stands.table_info ∙ ap (λ z. shown_table (table_of z)) same)) c.peek-shown.ensures.table

pub returns-clause-infos : goal.returns-clause-infos
returns-clause-infos g c =
    let u = c.seat.inside.seat in
    let b = c.take-book.result.book in
    let lent = c.take-book.ensures.book in
    let fits = lent.fitting (opened u.opening) (is_open u.opening c.seat.invariant.1) in
    let nil : noted_of b ≡ noted_of b ++ [] = sym (append-nil (noted_of b)) in
    let x = turn_later u c.take-book.new.seat c.put.new.seat b b [] c.take-book.ensures.view c.put.ensures.view nil lent.seen lent.own tt fits in
    let same : replay (opened u.opening).state b.log ≡ state_at (lock_seat c.put.new.seat) = seen_here (opened u.opening).state b c.put.new.seat.seen x.2 ∙ ap (λ (o : Opening). replay o.state (events_of c.put.new.seat.seen)) (sym x.0.opening) in
    if_ok c.peek-shown.result _ _ (λ p k. rw k (rw same at fits.stands.infos)) c.peek-shown.ensures.infos
