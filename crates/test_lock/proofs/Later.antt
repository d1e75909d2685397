-- what a caller holds while its seat goes on
use Rattle.std.proofs.Common.{ℕ, ◌≡◌, ◌≤◌, length, arith, true, List, [], ◌++◌, Option, Some, ap, sym, ◌∙◌, subst, length-append}
use Rattle.std.specs.Prelude.{IfSome}
use Rattle.std.proofs.lemmas.List.{append-nil}
use Rattle.st_grants.proofs.Sound.{some_and}
use Rattle.st_wants.specs.declared.row.LockRow.{LockRow}
use Rattle.st_wants.specs.Lock.{row_at}
use Rattle.st_model.specs.declared.call.Call.{Call}
use Rattle.st_model.specs.declared.state.PoolState.{PoolState}
use Rattle.st_model.specs.Wanted.{want_of}
use Rattle.st_history.specs.declared.log.Event.{Event}
use Rattle.st_history.specs.Own.{row_told}
use Rattle.st_history.proofs.Own.{own-told}
use Rattle.st_book.specs.Stands.{PartStands}
use Rattle.st_book.specs.Noted.{grant_with, IsNoted}
use Rattle.st_book.specs.View.{TableView}
use Rattle.st_lock.specs.declared.desk.Opening.{Opening}
use Rattle.st_lock.specs.Closing.{IsQuiet, lock_counted}
use Rattle.st_lock.specs.Opening.{events_of}
use Rattle.st_lock.specs.Seats.{LockSeat, IsLater, own_row, state_at}
use Rattle.st_lock.specs.Staying.{HasGoneOn}
use Rattle.st_lock.proofs.Staying.{gone_on, part-stays}
use Rattle.test_lock.specs.Refusing.{Holds}

pub holds-on : (old new : LockSeat) (t faults : ℕ) (call : Call) (cells : List PoolState) (table : Option TableView) → Holds old t call cells table faults → HasGoneOn old new → new.own ≡ old.own → Holds new t call cells table faults
holds-on old new t faults call cells table h on own =
    let told = some_and (λ (r : LockRow). (r.live ≡ true) × (r.want ≡ want_of call)) (own_row t old) h.row in
    let r = told.0 in
    let still : own_row t new ≡ Some r = ap (λ es. row_told t (events_of es)) own ∙ told.1 in
    let over = part-stays old new t r h.heard h.valid on told.1 still told.2.0 in
    record {
      row = rw still (told.2.0, told.2.1);
      heard = on.heard;
      valid = on.valid;
      part = subst (λ w. PartStands w (state_at new) cells table) told.2.1 (over.part cells table (subst (λ w. PartStands w (state_at old) cells table) (sym told.2.1) h.part));
      slack = subst (λ (o : Opening). IfSome table (λ (w : TableView). o.base ≤ w.slack)) (sym on.opening) h.slack;
      number = h.number;
      noted = subst (λ n. IsNoted (grant_with n t h.number) new.own) (sym on.number) (subst (λ es. IsNoted (grant_with old.number t h.number) es) (sym own) h.noted);
      whole = λ short.
          let all : length (old.seen ++ on.seen.0) ≡ length new.seen = ap length on.seen.1 in
          let both = length-append old.seen on.seen.0 in
          h.whole (omega arith);
    }

-- a lock that was closed leaves no ticket, so nobody held one
pub none-held : (v : LockSeat) (t faults : ℕ) (call : Call) (cells : List PoolState) (table : Option TableView) (log : List Event) (left : List PoolState) (board : TableView) (n : ℕ) → Holds v t call cells table faults → IsQuiet v log left board n → ⊥
none-held v t faults call cells table log left board n h quiet =
    let told = some_and (λ (r : LockRow). (r.live ≡ true) × (r.want ≡ want_of call)) (own_row t v) h.row in
    let there = own-told v.opening.state log v.number t told.0 quiet.history (subst (λ z. row_told t z ≡ Some told.0) (sym quiet.account.own) told.1) in
    let none : row_at t [] ≡ Some told.0 = subst (λ rows. row_at t rows ≡ Some told.0) quiet.released there.0 in
    absurd cc

-- how many numbers a seat counted says nothing of what it holds
pub holds-counted : (v : LockSeat) (n t faults : ℕ) (call : Call) (cells : List PoolState) (table : Option TableView) → Holds v t call cells table faults → Holds (lock_counted v n) t call cells table faults
holds-counted v n t faults call cells table h = record {
  row = h.row;
  heard = h.heard;
  valid = h.valid;
  part = h.part;
  slack = h.slack;
  number = h.number;
  noted = h.noted;
  whole = h.whole;
}

pub holds-back : (v back : LockSeat) (n t faults : ℕ) (call : Call) (cells : List PoolState) (table : Option TableView) → Holds v t call cells table faults → back ≡ lock_counted v n → Holds back t call cells table faults
holds-back v back n t faults call cells table h is = subst (λ (u : LockSeat). Holds u t call cells table faults) (sym is) (holds-counted v n t faults call cells table h)

pub holds-left : (v back : LockSeat) (t faults : ℕ) (call : Call) (cells : List PoolState) (table : Option TableView) → Holds v t call cells table faults → IsLater (lock_counted v 0) back → back.own ≡ v.own → Holds back t call cells table faults
holds-left v back t faults call cells table h later own = holds-on (lock_counted v 0) back t faults call cells table (holds-counted v 0 t faults call cells table h) (gone_on (lock_counted v 0) back [] later (append-nil v.own ∙ sym own)) own
