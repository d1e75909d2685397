-- a seat after a turn
use Rattle.std.proofs.Common.{ℕ, ◌≡◌, ◌==◌, arith, Bool, true, false, cond, List, [], ◌∷◌, ◌++◌, length, drop, refl, ap, sym, ◌∙◌, subst, append_assoc}
use Rattle.std.proofs.lemmas.List.Elements.{filter-append}
use Rattle.std.specs.Prelude.{Option, option_map, Some, None, Result, Ok, Err, IfOk, IfErr, IfSome, OnErr}
use Rattle.std.proofs.lemmas.List.{append-nil}
use mathlib.Core.List.{IsPrefix}
use Rattle.st_turn.specs.Lists.{told_by, AreBy}
use Rattle.st_turn.specs.Views.{SeatView, with_book, after_put}
use Rattle.st_turn.proofs.Logs.{drop_front, told_mine}
use Rattle.st_units.specs.declared.memory.NoMemory.{NoMemory}
use Rattle.st_wants.specs.declared.want.Want.{Want}
use Rattle.st_wants.specs.declared.row.LockRow.{LockRow}
use Rattle.st_wants.specs.Lock.{arrived, row_at}
use Rattle.st_model.specs.declared.entry.Entry.{Entry}
use Rattle.st_units.specs.Roomy.{Roomy}
use Rattle.st_model.specs.declared.state.EngineState.{EngineState}
use Rattle.st_history.specs.declared.log.Event.{Event}
use Rattle.st_history.specs.declared.log.Event.TheVariants.{Arrive, Release}
use Rattle.st_history.specs.History.{History}
use Rattle.st_history.proofs.ValidReplay.{valid_replay}
use Rattle.st_model.specs.Valid.{IsValid}
use Rattle.std.proofs.lemmas.Bool.Decides.{nat_tests}
use Rattle.std.proofs.lemmas.List.{map-append}
use Rattle.st_wants.specs.Lock.{new_row, marked}
use Rattle.st_history.specs.Own.{own_of, row_past, row_from, row_told}
use Rattle.st_book.specs.declared.noted.Noted.{Noted}
use Rattle.st_book.specs.Noted.{numbers_past, noted_log, grant_with}
use Rattle.st_book.specs.Stands.{Stands}
use Rattle.st_book.specs.View.{BookView}
use Rattle.st_book.proofs.Numbers.{noted-snoc}
use Rattle.st_lock.specs.declared.desk.Opening.{Opening}
use Rattle.st_lock.specs.declared.guard.Ticket.{Ticket}
use Rattle.st_lock.specs.Opening.{noted_by, noted_of, events_of}
use Rattle.st_lock.specs.Opening.{Fits as LockFits}
use Rattle.st_lock.specs.Seats.{LockSeat, lock_seat, opened, plain, IsOpened, IsAfter, IsLater}

-- the events of a noted log are the log
pub events-noted : (log : List Event) (ns : List ℕ) → events_of (noted_log log ns) ≡ log
events-noted [] ns = refl
events-noted (e ∷ es) ns = ap (λ z. e ∷ z) (events-noted es (numbers_past e ns))

-- a seat's events among the noted ones
pub own-events : (n : ℕ) (xs : List Noted) → own_of n (events_of xs) ≡ events_of (told_by noted_by n xs)
own-events n [] = refl
own-events n (x ∷ xs) =
    let rest = own-events n xs in
    let cases : (b : Bool) → cond b (x.event ∷ own_of n (events_of xs)) (own_of n (events_of xs)) ≡ events_of (cond b (x ∷ told_by noted_by n xs) (told_by noted_by n xs)) = elim [
      | true ↦ ap (λ z. x.event ∷ z) rest
      | false ↦ rest
    ] in
    cases (noted_by x == n)

pub is_open : (o : Option Opening) → IsOpened o → o ≡ Some (opened o)
is_open None h = absurd h
is_open (Some o) h = refl

-- a seat that put the book back with these events more
pub later-put : (v : SeatView Noted Opening) (log more : List Noted) → IsPrefix v.seen log → told_by noted_by v.number log ≡ v.own → AreBy noted_by v.number more → History (opened v.opening).state (events_of (log ++ more)) → IsValid (opened v.opening).state
    → IsLater (lock_seat v) (lock_seat (after_put (with_book v log) (log ++ more)))
later-put v log more p own by h valid =
    let dropped : drop (length log) (log ++ more) ≡ more = drop_front log more in
    let both : told_by noted_by v.number (log ++ more) ≡ told_by noted_by v.number log ++ told_by noted_by v.number more = filter-append (λ (e : Noted). noted_by e == v.number) log more in
    let mine : told_by noted_by v.number more ≡ more = told_mine noted_by v.number more by in
    record {
      turn = refl;
      number = refl;
      taken_over = refl;
      made = refl;
      counted = refl;
      opening = refl;
      more = p.0 ++ more;
      seen = ap (λ z. z ++ more) (sym p.1) ∙ append_assoc v.seen p.0 more;
      heard = both ∙ (rw (own, mine, dropped) refl);
      history = h;
      valid = valid_replay (opened v.opening).state (events_of (log ++ more)) valid;
    }

pub own-put : (v : SeatView Noted Opening) (log more : List Noted) → (after_put (with_book v log) (log ++ more)).own ≡ v.own ++ more
own-put v log more = ap (λ z. v.own ++ z) (drop_front log more)

-- a call in a turn: the seat v takes the book b as w, and puts n back as x
pub turn_later : (v w x : SeatView Noted Opening) (b n : BookView) (more : List Noted) → w ≡ with_book v (noted_of b) → x ≡ after_put w (noted_of n) → noted_of n ≡ noted_of b ++ more
    → IsPrefix v.seen (noted_of b) → told_by noted_by v.number (noted_of b) ≡ v.own → AreBy noted_by v.number more → LockFits (opened v.opening) n
    → IsLater (lock_seat v) (lock_seat x) × (x.own ≡ v.own ++ more) × (x.seen ≡ noted_of n)
turn_later v w x b n more took gave goes p own by fits =
    let is : x ≡ after_put (with_book v (noted_of b)) (noted_of b ++ more) = gave ∙ rw (took, goes) refl in
    let history : History (opened v.opening).state (events_of (noted_of b ++ more)) = subst (λ z. History (opened v.opening).state (events_of z)) goes (subst (λ z. History (opened v.opening).state z) (sym (events-noted n.log n.notes)) fits.stands.history) in (
      subst (λ z. IsLater (lock_seat v) (lock_seat z)) (sym is) (later-put v (noted_of b) more p own by history fits.valid),
      ap (λ (z : SeatView Noted Opening). z.own) is ∙ own-put v (noted_of b) more,
      ap (λ (z : SeatView Noted Opening). z.seen) gave,
    )

-- the events of an arrival, or none
pub arrive_goes : (o : Result ℕ (Want × NoMemory)) (b n : BookView) (seat : ℕ) (want : Want) → IfOk o (λ t. t ≡ b.lock.next) → IfOk o (λ t. n ≡ record b { lock = arrived seat want b.lock; log = b.log ++ Arrive seat t want ∷ [] }) → OnErr o (n ≡ b)
    → (more : List Noted) × (noted_of n ≡ noted_of b ++ more) × AreBy noted_by seat more × IfOk o (λ t. more ≡ plain (Arrive seat t want) ∷ []) × OnErr o (more ≡ [])
arrive_goes (Ok t) b n seat want ticket ok err =
    let logs : noted_of n ≡ noted_log (b.log ++ Arrive seat t want ∷ []) b.notes = ap noted_of ok in
    (plain (Arrive seat t want) ∷ [], logs ∙ noted-snoc b.log b.notes (Arrive seat t want), (refl, tt), refl, tt)
arrive_goes (Err e) b n seat want ticket ok err = ([], ap noted_of err ∙ sym (append-nil (noted_of b)), tt, tt, refl)

pub fits_still : (o : Opening) (b n : BookView) → ((s : EngineState) (base : ℕ) → Stands s base b → Stands s base n) → LockFits o b → LockFits o n
fits_still o b n still h = record { valid = h.valid; stands = still o.state o.base h.stands }

pub by_is : (n m : ℕ) (more : List Noted) → n ≡ m → AreBy noted_by n more → AreBy noted_by m more
by_is n m more e h = subst (λ z. AreBy noted_by z more) e h

-- what an arrival's outcome tells of the seat's own events
pub arrive_own : (o : Result ℕ (Want × NoMemory)) (n m : ℕ) (want : Want) (more own new : List Noted) → n ≡ m → IfOk o (λ t. more ≡ plain (Arrive n t want) ∷ []) → OnErr o (more ≡ []) → new ≡ own ++ more
    → IfOk o (λ t. new ≡ own ++ plain (Arrive m t want) ∷ []) × OnErr o (new ≡ own)
arrive_own (Ok t) n m want more own new e ok err is = (is ∙ (ap (λ z. own ++ z) ok ∙ ap (λ z. own ++ plain (Arrive z t want) ∷ []) e), tt)
arrive_own (Err x) n m want more own new e ok err is = (tt, is ∙ (ap (λ z. own ++ z) err ∙ append-nil own))

pub ticket_ok : (o : Result ℕ (Want × NoMemory)) (r : Result Ticket (Want × NoMemory)) (P : ℕ → Type 0) → IfOk r (λ t. o ≡ Ok t.number) → IfOk o P → IfOk r (λ t. P t.number)
ticket_ok o (Ok t) P e h = subst (λ z. IfOk z P) e h
ticket_ok o (Err x) P e h = tt

pub ticket_err : (o : Result ℕ (Want × NoMemory)) (r : Result Ticket (Want × NoMemory)) (P : Type 0) → IfErr r (λ e. o ≡ Err e) → OnErr o P → OnErr r P
ticket_err o (Ok t) P e h = tt
ticket_err o (Err x) P e h = subst (λ z. OnErr z P) e h

-- the event of a release
pub release_goes : (b n : BookView) (t seat : ℕ) (r : LockRow) (entries : Roomy Entry) → row_at t b.lock.rows ≡ Some r → r.seat ≡ seat → IfSome (row_at t b.lock.rows) (λ q. n.log ≡ b.log ++ Release q.seat t entries ∷ []) → n.notes ≡ b.notes
    → (noted_of n ≡ noted_of b ++ plain (Release seat t entries) ∷ []) × AreBy noted_by seat (plain (Release seat t entries) ∷ [])
release_goes b n t seat r entries at is log notes =
    let log' : n.log ≡ b.log ++ Release r.seat t entries ∷ [] = rw at at log in
    let logs : noted_of n ≡ noted_log (b.log ++ Release r.seat t entries ∷ []) b.notes = rw (log', notes) refl in
    (logs ∙ (noted-snoc b.log b.notes (Release r.seat t entries) ∙ ap (λ z. noted_of b ++ plain (Release z t entries) ∷ []) is), (refl, tt))

pub fits_after : (o : Opening) (b n : BookView) → LockFits o b → Stands o.state o.base n → LockFits o n
fits_after o b n h s = record { valid = h.valid; stands = s }

pub fits_of : (p : Option Opening) (o : Opening) (n : BookView) → p ≡ Some o → LockFits (opened p) n → LockFits o n
fits_of p o n is h = subst (λ z. LockFits z n) (ap opened is) h

row_snoc : (t : ℕ) (row : Option LockRow) (es : List Event) (e : Event) → row_from t row (es ++ e ∷ []) ≡ row_past t (row_from t row es) e
row_snoc t row [] e = refl
row_snoc t row (x ∷ xs) e = row_snoc t (row_past t row x) xs e

-- the row of a ticket after one more own event
pub row_push : (t : ℕ) (own new : List Noted) (x : Noted) → new ≡ own ++ x ∷ [] → row_told t (events_of new) ≡ row_past t (row_told t (events_of own)) x.event
row_push t own new x is = ap (λ z. row_told t (events_of z)) is ∙ (ap (row_told t) (map-append (λ (y : Noted). y.event) own (x ∷ [])) ∙ row_snoc t None (events_of own) x.event)

pub row_arrived : (o : Result ℕ (Want × NoMemory)) (n : ℕ) (want : Want) (own new : List Noted) → IfOk o (λ t. new ≡ own ++ plain (Arrive n t want) ∷ []) → IfOk o (λ t. row_told t (events_of new) ≡ Some (new_row t n want))
row_arrived (Err e) n want own new is = tt
row_arrived (Ok t) n want own new is =
    let pushed = row_push t own new (plain (Arrive n t want)) is in
    let same : (t == t) ≡ true = grind (arith, nat_tests) in
    pushed ∙ ap (λ b. cond b (Some (new_row t n want)) (row_told t (events_of own))) same

pub row_granted : (t n k : ℕ) (own new : List Noted) → new ≡ own ++ grant_with n t k ∷ [] → row_told t (events_of new) ≡ option_map (marked t) (row_told t (events_of own))
row_granted t n k own new is = row_push t own new (grant_with n t k) is

pub later_trans : (a b c : LockSeat) → IsLater a b → IsLater b c → IsLater a c
later_trans a b c h k = record {
  turn = k.turn ∙ h.turn;
  number = k.number ∙ h.number;
  taken_over = k.taken_over ∙ h.taken_over;
  made = k.made ∙ h.made;
  counted = k.counted ∙ h.counted;
  opening = k.opening ∙ h.opening;
  more = h.more ++ k.more;
  seen = k.seen ∙ (ap (λ z. z ++ k.more) h.seen ∙ append_assoc a.seen h.more k.more);
  heard = k.heard;
  history = k.history;
  valid = k.valid;
}

pub after_same : (a : LockSeat) → IsAfter a a
after_same a = record { turn = refl; number = refl; taken_over = refl; made = refl; counted = refl; opening = refl; more = []; seen = sym (append-nil a.seen) }

pub after_later : (a b c : LockSeat) → IsAfter a b → IsLater b c → IsLater a c
after_later a b c h k = record {
  turn = k.turn ∙ h.turn;
  number = k.number ∙ h.number;
  taken_over = k.taken_over ∙ h.taken_over;
  made = k.made ∙ h.made;
  counted = k.counted ∙ h.counted;
  opening = k.opening ∙ h.opening;
  more = h.more ++ k.more;
  seen = k.seen ∙ (ap (λ z. z ++ k.more) h.seen ∙ append_assoc a.seen h.more k.more);
  heard = k.heard;
  history = k.history;
  valid = k.valid;
}

pub later_after : (a b : LockSeat) → IsLater a b → IsAfter a b
later_after a b k = record { turn = k.turn; number = k.number; taken_over = k.taken_over; made = k.made; counted = k.counted; opening = k.opening; more = k.more; seen = k.seen }

pub after_trans : (a b c : LockSeat) → IsAfter a b → IsLater b c → IsAfter a c
after_trans a b c h k = later_after a c (after_later a b c h k)
