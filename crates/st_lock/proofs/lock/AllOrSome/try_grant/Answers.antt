use Rattle.std.proofs.Common.{◌≡◌, ◌-◌, ◌^◌, [], ◌∷◌, ◌++◌, ap, sym, ◌∙◌}
use Rattle.std.specs.Prelude.{min}
use Rattle.st_book.specs.declared.part.Part.{Part}
use Rattle.st_book.specs.Noted.{grant_with}
use Rattle.st_history.specs.History.{replay}
use Rattle.st_lock.specs.Held.{faults_in}
use Rattle.st_lock.specs.Opening.{events_of, noted_of}
use Rattle.st_lock.specs.Seats.{LockSeat, lock_seat, opened}
use Rattle.st_lock.proofs.Turns.{fits_still, fits_of, is_open, row_granted, turn_later}
use Rattle.st_lock.proofs.Granting.{Waits, waits_in, grant_goes, guard_if, guard_none, guard_blocked, seen_lock, seen_state, whole_number, few_number, none_more, ok_at, row_live}
use Rattle.st_lock.specs.declared.desk.Opening.{Opening}
use Rattle.st_lock.proofs.lock.AllOrSome.try_grant.Goals as goal

pub grant-granted-requires-after_bounds : goal.grant-granted-requires-after_bounds
grant-granted-requires-after_bounds g c κs within =
    let u = c.seat.inside.seat in
    let v : LockSeat = lock_seat u in
    let b = c.take-book.result.book in
    let t = c.args.ticket.number in
    let lent = c.take-book.ensures.book in
    let fits = lent.fitting (opened u.opening) (is_open u.opening c.seat.invariant.1) in
    let w : Waits v b t = waits_in v b t lent.seen lent.own fits (rw (← c.seat.view_is) at c.requires.waits) in
    rw w.at w.waits

pub put-requires-clause-book : goal.put-requires-clause-book
put-requires-clause-book g c =
    let u = c.seat.inside.seat in
    let v : LockSeat = lock_seat u in
    let b = c.take-book.result.book in
    let t = c.args.ticket.number in
    let lent = c.take-book.ensures.book in
    let fits = lent.fitting (opened u.opening) (is_open u.opening c.seat.invariant.1) in
    let w : Waits v b t = waits_in v b t lent.seen lent.own fits (rw (← c.seat.view_is) at c.requires.waits) in
    let n = c.grant-granted.new.self in
    let cut = λ (p : Part g.row.C.Denot g.row.T.Denot g.row.C-Info.Denot g.row.T-Info.Denot). min (faults_in g.T.Board.fault_count g.C.Cell.fault_count p.table p.cells.items) (2 ^ 64 - 1) in
    let m = grant_goes c.grant-granted.result cut b n t v.number w.row w.at w.seat fits.stands.grants c.grant-granted.ensures.log c.grant-granted.ensures.notes c.grant-granted.ensures.err in
    let fits' = fits_still (opened u.opening) b n c.grant-granted.ensures.stands fits in
    rw c.take-book.ensures.view (
      m.0,
      record {
        goes = m.1;
        own = m.2;
        fitting = λ o is. fits_of u.opening o n is fits';
      },
    )

pub returns-clause-later : goal.returns-clause-later
returns-clause-later g c =
    let u = c.seat.inside.seat in
    let v : LockSeat = lock_seat u in
    let b = c.take-book.result.book in
    let t = c.args.ticket.number in
    let lent = c.take-book.ensures.book in
    let fits = lent.fitting (opened u.opening) (is_open u.opening c.seat.invariant.1) in
    let w : Waits v b t = waits_in v b t lent.seen lent.own fits (rw (← c.seat.view_is) at c.requires.waits) in
    let n = c.grant-granted.new.self in
    let cut = λ (p : Part g.row.C.Denot g.row.T.Denot g.row.C-Info.Denot g.row.T-Info.Denot). min (faults_in g.T.Board.fault_count g.C.Cell.fault_count p.table p.cells.items) (2 ^ 64 - 1) in
    let m = grant_goes c.grant-granted.result cut b n t v.number w.row w.at w.seat fits.stands.grants c.grant-granted.ensures.log c.grant-granted.ensures.notes c.grant-granted.ensures.err in
    let fits' = fits_still (opened u.opening) b n c.grant-granted.ensures.stands fits in
    let x = turn_later u c.take-book.new.seat c.put.new.seat b n m.0 c.take-book.ensures.view c.put.ensures.view m.1 lent.seen lent.own m.2 fits' in
    rw (← c.seat.view_is) x.0

pub returns-clause-own : goal.returns-clause-own
returns-clause-own g c =
    let u = c.seat.inside.seat in
    let v : LockSeat = lock_seat u in
    let b = c.take-book.result.book in
    let t = c.args.ticket.number in
    let lent = c.take-book.ensures.book in
    let fits = lent.fitting (opened u.opening) (is_open u.opening c.seat.invariant.1) in
    let w : Waits v b t = waits_in v b t lent.seen lent.own fits (rw (← c.seat.view_is) at c.requires.waits) in
    let n = c.grant-granted.new.self in
    let cut = λ (p : Part g.row.C.Denot g.row.T.Denot g.row.C-Info.Denot g.row.T-Info.Denot). min (faults_in g.T.Board.fault_count g.C.Cell.fault_count p.table p.cells.items) (2 ^ 64 - 1) in
    let m = grant_goes c.grant-granted.result cut b n t v.number w.row w.at w.seat fits.stands.grants c.grant-granted.ensures.log c.grant-granted.ensures.notes c.grant-granted.ensures.err in
    let fits' = fits_still (opened u.opening) b n c.grant-granted.ensures.stands fits in
    let x = turn_later u c.take-book.new.seat c.put.new.seat b n m.0 c.take-book.ensures.view c.put.ensures.view m.1 lent.seen lent.own m.2 fits' in
    rw (← c.seat.view_is) (guard_if c.grant-granted.result c.tried.result t _ c.tried.ensures.ok (λ h tk e.
    let is : m.0 ≡ grant_with v.number t (cut h.part) ∷ [] = ok_at c.grant-granted.result h.part (λ p. m.0 ≡ grant_with v.number t (cut p) ∷ []) e m.3 in
    (tk, x.1 ∙ (ap (λ z. v.own ++ z) is ∙ ap (λ z. v.own ++ grant_with v.number z (cut h.part) ∷ []) (sym tk)))))

pub returns-clause-row : goal.returns-clause-row
returns-clause-row g c =
    let u = c.seat.inside.seat in
    let v : LockSeat = lock_seat u in
    let b = c.take-book.result.book in
    let t = c.args.ticket.number in
    let lent = c.take-book.ensures.book in
    let fits = lent.fitting (opened u.opening) (is_open u.opening c.seat.invariant.1) in
    let w : Waits v b t = waits_in v b t lent.seen lent.own fits (rw (← c.seat.view_is) at c.requires.waits) in
    let n = c.grant-granted.new.self in
    let cut = λ (p : Part g.row.C.Denot g.row.T.Denot g.row.C-Info.Denot g.row.T-Info.Denot). min (faults_in g.T.Board.fault_count g.C.Cell.fault_count p.table p.cells.items) (2 ^ 64 - 1) in
    let m = grant_goes c.grant-granted.result cut b n t v.number w.row w.at w.seat fits.stands.grants c.grant-granted.ensures.log c.grant-granted.ensures.notes c.grant-granted.ensures.err in
    let fits' = fits_still (opened u.opening) b n c.grant-granted.ensures.stands fits in
    let x = turn_later u c.take-book.new.seat c.put.new.seat b n m.0 c.take-book.ensures.view c.put.ensures.view m.1 lent.seen lent.own m.2 fits' in
    rw (← c.seat.view_is) (guard_if c.grant-granted.result c.tried.result t _ c.tried.ensures.ok (λ h tk e.
    let is : m.0 ≡ grant_with v.number t (cut h.part) ∷ [] = ok_at c.grant-granted.result h.part (λ p. m.0 ≡ grant_with v.number t (cut p) ∷ []) e m.3 in
    let grew : c.put.new.seat.own ≡ v.own ++ grant_with v.number t (cut h.part) ∷ [] = x.1 ∙ ap (λ z. v.own ++ z) is in
    let now = row_granted t v.number (cut h.part) v.own c.put.new.seat.own grew in
    rw (tk, w.told) (row_live t v c.put.new.seat.own b w now)))

pub returns-clause-part : goal.returns-clause-part
returns-clause-part g c =
    let u = c.seat.inside.seat in
    let v : LockSeat = lock_seat u in
    let b = c.take-book.result.book in
    let t = c.args.ticket.number in
    let lent = c.take-book.ensures.book in
    let fits = lent.fitting (opened u.opening) (is_open u.opening c.seat.invariant.1) in
    let w : Waits v b t = waits_in v b t lent.seen lent.own fits (rw (← c.seat.view_is) at c.requires.waits) in
    let n = c.grant-granted.new.self in
    let cut = λ (p : Part g.row.C.Denot g.row.T.Denot g.row.C-Info.Denot g.row.T-Info.Denot). min (faults_in g.T.Board.fault_count g.C.Cell.fault_count p.table p.cells.items) (2 ^ 64 - 1) in
    let m = grant_goes c.grant-granted.result cut b n t v.number w.row w.at w.seat fits.stands.grants c.grant-granted.ensures.log c.grant-granted.ensures.notes c.grant-granted.ensures.err in
    let fits' = fits_still (opened u.opening) b n c.grant-granted.ensures.stands fits in
    let x = turn_later u c.take-book.new.seat c.put.new.seat b n m.0 c.take-book.ensures.view c.put.ensures.view m.1 lent.seen lent.own m.2 fits' in
    rw (← c.seat.view_is) (guard_if c.grant-granted.result c.tried.result t _ c.tried.ensures.ok (λ h tk e.
    let stands = rw e at c.grant-granted.ensures.part in
    let here = rw w.at at (stands (opened u.opening).state (opened u.opening).base fits.stands) in
    let log = rw w.at at (rw e at c.grant-granted.ensures.log) in
    let same = seen_state (opened u.opening).state b n c.put.new.seat.seen t w.row.seat x.2 log ∙ ap (λ (o : Opening). replay o.state (events_of c.put.new.seat.seen)) (sym x.0.opening) in
    rw w.told (rw same at here)))

pub returns-clause-shown : goal.returns-clause-shown
returns-clause-shown g c =
    let u = c.seat.inside.seat in
    let v : LockSeat = lock_seat u in
    let b = c.take-book.result.book in
    let t = c.args.ticket.number in
    let lent = c.take-book.ensures.book in
    let fits = lent.fitting (opened u.opening) (is_open u.opening c.seat.invariant.1) in
    let w : Waits v b t = waits_in v b t lent.seen lent.own fits (rw (← c.seat.view_is) at c.requires.waits) in
    let n = c.grant-granted.new.self in
    let cut = λ (p : Part g.row.C.Denot g.row.T.Denot g.row.C-Info.Denot g.row.T-Info.Denot). min (faults_in g.T.Board.fault_count g.C.Cell.fault_count p.table p.cells.items) (2 ^ 64 - 1) in
    let m = grant_goes c.grant-granted.result cut b n t v.number w.row w.at w.seat fits.stands.grants c.grant-granted.ensures.log c.grant-granted.ensures.notes c.grant-granted.ensures.err in
    let fits' = fits_still (opened u.opening) b n c.grant-granted.ensures.stands fits in
    let x = turn_later u c.take-book.new.seat c.put.new.seat b n m.0 c.take-book.ensures.view c.put.ensures.view m.1 lent.seen lent.own m.2 fits' in
    rw (← c.seat.view_is) (guard_if c.grant-granted.result c.tried.result t _ c.tried.ensures.ok (λ h tk e. λ whole.
    let stands = rw e at c.grant-granted.ensures.shown in
    let here = rw w.at at (stands whole (opened u.opening).state (opened u.opening).base fits.stands) in
    let log = rw w.at at (rw e at c.grant-granted.ensures.log) in
    let same = seen_state (opened u.opening).state b n c.put.new.seat.seen t w.row.seat x.2 log ∙ ap (λ (o : Opening). replay o.state (events_of c.put.new.seat.seen)) (sym x.0.opening) in
    rw w.told (rw same at here)))

pub returns-clause-due : goal.returns-clause-due
returns-clause-due g c =
    let u = c.seat.inside.seat in
    let v : LockSeat = lock_seat u in
    let b = c.take-book.result.book in
    let t = c.args.ticket.number in
    let lent = c.take-book.ensures.book in
    let fits = lent.fitting (opened u.opening) (is_open u.opening c.seat.invariant.1) in
    let w : Waits v b t = waits_in v b t lent.seen lent.own fits (rw (← c.seat.view_is) at c.requires.waits) in
    let n = c.grant-granted.new.self in
    let cut = λ (p : Part g.row.C.Denot g.row.T.Denot g.row.C-Info.Denot g.row.T-Info.Denot). min (faults_in g.T.Board.fault_count g.C.Cell.fault_count p.table p.cells.items) (2 ^ 64 - 1) in
    let m = grant_goes c.grant-granted.result cut b n t v.number w.row w.at w.seat fits.stands.grants c.grant-granted.ensures.log c.grant-granted.ensures.notes c.grant-granted.ensures.err in
    let fits' = fits_still (opened u.opening) b n c.grant-granted.ensures.stands fits in
    let x = turn_later u c.take-book.new.seat c.put.new.seat b n m.0 c.take-book.ensures.view c.put.ensures.view m.1 lent.seen lent.own m.2 fits' in
    rw (← c.seat.view_is) (guard_if c.grant-granted.result c.tried.result t _ c.tried.ensures.ok (λ h tk e. λ short.
    let due = rw e at c.grant-granted.ensures.due in
    rw w.told (rw w.at at (due short))))

pub returns-clause-slack : goal.returns-clause-slack
returns-clause-slack g c =
    let u = c.seat.inside.seat in
    let v : LockSeat = lock_seat u in
    let b = c.take-book.result.book in
    let t = c.args.ticket.number in
    let lent = c.take-book.ensures.book in
    let fits = lent.fitting (opened u.opening) (is_open u.opening c.seat.invariant.1) in
    let w : Waits v b t = waits_in v b t lent.seen lent.own fits (rw (← c.seat.view_is) at c.requires.waits) in
    let n = c.grant-granted.new.self in
    let cut = λ (p : Part g.row.C.Denot g.row.T.Denot g.row.C-Info.Denot g.row.T-Info.Denot). min (faults_in g.T.Board.fault_count g.C.Cell.fault_count p.table p.cells.items) (2 ^ 64 - 1) in
    let m = grant_goes c.grant-granted.result cut b n t v.number w.row w.at w.seat fits.stands.grants c.grant-granted.ensures.log c.grant-granted.ensures.notes c.grant-granted.ensures.err in
    let fits' = fits_still (opened u.opening) b n c.grant-granted.ensures.stands fits in
    let x = turn_later u c.take-book.new.seat c.put.new.seat b n m.0 c.take-book.ensures.view c.put.ensures.view m.1 lent.seen lent.own m.2 fits' in
    guard_if c.grant-granted.result c.tried.result t _ c.tried.ensures.ok (λ h tk e.
    let slack = rw e at c.grant-granted.ensures.slack in
    rw (x.0.opening) (slack (opened u.opening).state (opened u.opening).base fits.stands))

pub returns-clause-whole : goal.returns-clause-whole
returns-clause-whole g c =
    let u = c.seat.inside.seat in
    let v : LockSeat = lock_seat u in
    let b = c.take-book.result.book in
    let t = c.args.ticket.number in
    let lent = c.take-book.ensures.book in
    let fits = lent.fitting (opened u.opening) (is_open u.opening c.seat.invariant.1) in
    let w : Waits v b t = waits_in v b t lent.seen lent.own fits (rw (← c.seat.view_is) at c.requires.waits) in
    let n = c.grant-granted.new.self in
    let cut = λ (p : Part g.row.C.Denot g.row.T.Denot g.row.C-Info.Denot g.row.T-Info.Denot). min (faults_in g.T.Board.fault_count g.C.Cell.fault_count p.table p.cells.items) (2 ^ 64 - 1) in
    let m = grant_goes c.grant-granted.result cut b n t v.number w.row w.at w.seat fits.stands.grants c.grant-granted.ensures.log c.grant-granted.ensures.notes c.grant-granted.ensures.err in
    let fits' = fits_still (opened u.opening) b n c.grant-granted.ensures.stands fits in
    let x = turn_later u c.take-book.new.seat c.put.new.seat b n m.0 c.take-book.ensures.view c.put.ensures.view m.1 lent.seen lent.own m.2 fits' in
    guard_if c.grant-granted.result c.tried.result t _ c.tried.ensures.ok (λ h tk e. λ short.
    let lent' = rw e at c.grant-granted.ensures.lent in
    let lock = rw e at c.grant-granted.ensures.lock in
    let is : m.0 ≡ grant_with v.number t (cut h.part) ∷ [] = ok_at c.grant-granted.result h.part (λ p. m.0 ≡ grant_with v.number t (cut p) ∷ []) e m.3 in
    whole_number (opened u.opening).state (opened u.opening).base b n c.put.new.seat.seen t v.number (faults_in g.T.Board.fault_count g.C.Cell.fault_count h.part.table h.part.cells.items) (cut h.part) w.row fits' x.2 (m.1 ∙ ap (λ z. noted_of b ++ z) is) lock w.at
    (lent' (opened u.opening).state (opened u.opening).base fits.stands) short)

pub returns-clause-few : goal.returns-clause-few
returns-clause-few g c =
    let u = c.seat.inside.seat in
    let v : LockSeat = lock_seat u in
    let b = c.take-book.result.book in
    let t = c.args.ticket.number in
    let lent = c.take-book.ensures.book in
    let fits = lent.fitting (opened u.opening) (is_open u.opening c.seat.invariant.1) in
    let w : Waits v b t = waits_in v b t lent.seen lent.own fits (rw (← c.seat.view_is) at c.requires.waits) in
    let n = c.grant-granted.new.self in
    let cut = λ (p : Part g.row.C.Denot g.row.T.Denot g.row.C-Info.Denot g.row.T-Info.Denot). min (faults_in g.T.Board.fault_count g.C.Cell.fault_count p.table p.cells.items) (2 ^ 64 - 1) in
    let m = grant_goes c.grant-granted.result cut b n t v.number w.row w.at w.seat fits.stands.grants c.grant-granted.ensures.log c.grant-granted.ensures.notes c.grant-granted.ensures.err in
    let fits' = fits_still (opened u.opening) b n c.grant-granted.ensures.stands fits in
    let x = turn_later u c.take-book.new.seat c.put.new.seat b n m.0 c.take-book.ensures.view c.put.ensures.view m.1 lent.seen lent.own m.2 fits' in
    guard_if c.grant-granted.result c.tried.result t _ c.tried.ensures.ok (λ h tk e. λ short.
    let lent' = rw e at c.grant-granted.ensures.lent in
    few_number (opened u.opening).state (opened u.opening).base b n c.put.new.seat.seen m.0 t (faults_in g.T.Board.fault_count g.C.Cell.fault_count h.part.table h.part.cells.items) fits' x.2 m.1
    (lent' (opened u.opening).state (opened u.opening).base fits.stands) short)

pub returns-clause-blocked : goal.returns-clause-blocked
returns-clause-blocked g c =
    let u = c.seat.inside.seat in
    let v : LockSeat = lock_seat u in
    let b = c.take-book.result.book in
    let t = c.args.ticket.number in
    let lent = c.take-book.ensures.book in
    let fits = lent.fitting (opened u.opening) (is_open u.opening c.seat.invariant.1) in
    let w : Waits v b t = waits_in v b t lent.seen lent.own fits (rw (← c.seat.view_is) at c.requires.waits) in
    let n = c.grant-granted.new.self in
    let cut = λ (p : Part g.row.C.Denot g.row.T.Denot g.row.C-Info.Denot g.row.T-Info.Denot). min (faults_in g.T.Board.fault_count g.C.Cell.fault_count p.table p.cells.items) (2 ^ 64 - 1) in
    let m = grant_goes c.grant-granted.result cut b n t v.number w.row w.at w.seat fits.stands.grants c.grant-granted.ensures.log c.grant-granted.ensures.notes c.grant-granted.ensures.err in
    let fits' = fits_still (opened u.opening) b n c.grant-granted.ensures.stands fits in
    let x = turn_later u c.take-book.new.seat c.put.new.seat b n m.0 c.take-book.ensures.view c.put.ensures.view m.1 lent.seen lent.own m.2 fits' in
    guard_blocked c.grant-granted.result c.tried.result c.args.ticket b.lock _ c.tried.ensures.err (seen_lock c.grant-granted.result (opened u.opening).state b n c.put.new.seat.seen x.2 c.grant-granted.ensures.err fits.stands.lock) c.grant-granted.ensures.blocked

pub returns-clause-same : goal.returns-clause-same
returns-clause-same g c =
    let u = c.seat.inside.seat in
    let v : LockSeat = lock_seat u in
    let b = c.take-book.result.book in
    let t = c.args.ticket.number in
    let lent = c.take-book.ensures.book in
    let fits = lent.fitting (opened u.opening) (is_open u.opening c.seat.invariant.1) in
    let w : Waits v b t = waits_in v b t lent.seen lent.own fits (rw (← c.seat.view_is) at c.requires.waits) in
    let n = c.grant-granted.new.self in
    let cut = λ (p : Part g.row.C.Denot g.row.T.Denot g.row.C-Info.Denot g.row.T-Info.Denot). min (faults_in g.T.Board.fault_count g.C.Cell.fault_count p.table p.cells.items) (2 ^ 64 - 1) in
    let m = grant_goes c.grant-granted.result cut b n t v.number w.row w.at w.seat fits.stands.grants c.grant-granted.ensures.log c.grant-granted.ensures.notes c.grant-granted.ensures.err in
    let fits' = fits_still (opened u.opening) b n c.grant-granted.ensures.stands fits in
    let x = turn_later u c.take-book.new.seat c.put.new.seat b n m.0 c.take-book.ensures.view c.put.ensures.view m.1 lent.seen lent.own m.2 fits' in
    rw (← c.seat.view_is) (guard_none c.grant-granted.result c.tried.result c.args.ticket (c.put.new.seat.own ≡ u.own) c.tried.ensures.err (none_more c.grant-granted.result u.own c.put.new.seat.own m.0 x.1 m.4))
