-- the log that the last seat closes is the one that it saw
use Rattle.std.proofs.Common.{ℕ, ◌≡◌, ◌==◌, Bool, true, false, cond, List, [], ◌∷◌, ◌++◌, map, length, refl, ap, sym, ◌∙◌, subst, arith, length-append, append_assoc}
use Rattle.std.specs.Prelude.{IsSome}
use Rattle.std.proofs.lemmas.List.{map-append, append-nil}
use Rattle.std.proofs.lemmas.List.Elements.{filter-append}
use mathlib.Core.List.{IsPrefix}
use Rattle.st_turn.specs.declared.knowledge.Claim.{Claim}
use Rattle.st_turn.specs.Lists.{one_if, times, IsAmong, told_by, AreAmong, number_of, Account}
use Rattle.st_wants.specs.declared.row.LockRow.{LockRow}
use Rattle.st_wants.specs.Lock.{Lock, start, row_at}
use Rattle.st_wants.specs.Rules.{lock_run}
use Rattle.st_grants.specs.Order.{IsLeastTicket}
use Rattle.st_history.specs.declared.log.Event.{Event}
use Rattle.st_history.specs.History.{moves_of}
use Rattle.st_history.specs.Own.{seat_of, own_of}
use Rattle.st_book.specs.declared.noted.Noted.{Noted}
use Rattle.st_book.specs.View.{BookView, TableView}
use Rattle.st_model.specs.declared.state.PoolState.{PoolState}
use Rattle.st_lock.specs.Closing.{IsAccount, IsQuiet, numbers_in, plain_claim, lock_counted}
use Rattle.st_lock.specs.Opening.{noted_by, noted_of, events_of}
use Rattle.st_lock.specs.Seats.{LockSeat, IsLater, lock_at}
use Rattle.st_lock.proofs.Turns.{events-noted, own-events}

nothing_more : {A : Type 0} (xs zs : List A) → xs ++ zs ≡ xs → zs ≡ []
nothing_more {A} xs [] h = refl
nothing_more {A} xs (z ∷ zs) h =
    let long = length-append xs (z ∷ zs) in
    let same : length (xs ++ z ∷ zs) ≡ length xs = ap length h in
    absurd (omega arith)

module _ {E : Type 0} (by : E → ℕ) where
  -- a number of which a log that goes on has no more events is not that of the next event
  not_of : (n : ℕ) (xs : List E) (y : E) (ys own : List E) → told_by by n (xs ++ y ∷ ys) ≡ own → told_by by n xs ≡ own → one_if (by y == n) ≡ 0
  not_of n xs y ys own whole front = here (by y == n) refl
    where
      both : told_by by n (xs ++ y ∷ ys) ≡ told_by by n xs ++ told_by by n (y ∷ ys)
      both = filter-append (λ (e : E). by e == n) xs (y ∷ ys)

      none : told_by by n (y ∷ ys) ≡ []
      none = nothing_more own (told_by by n (y ∷ ys)) (ap (λ z. z ++ told_by by n (y ∷ ys)) (sym front) ∙ (sym both ∙ whole))

      here : (b : Bool) → (by y == n) ≡ b → one_if b ≡ 0
      here true e = absurd (let k : cond (by y == n) (y ∷ told_by by n ys) (told_by by n ys) ≡ [] = none in let k' = rw e at k in cc)
      here false e = refl

  none_of : (xs : List E) (y : E) (ys : List E) (cs : List (Claim E)) → Account by (xs ++ y ∷ ys) cs → Account by xs cs → times (by y) (map number_of cs) ≡ 0
  none_of xs y ys [] whole front = refl
  none_of xs y ys (c ∷ cs) whole front =
      let first = not_of c.number xs y ys c.events whole.0 front.0 in
      let rest = none_of xs y ys cs whole.1 front.1 in
      omega arith

  among_rest : (ns : List ℕ) (xs ys : List E) → AreAmong by ns (xs ++ ys) → AreAmong by ns ys
  among_rest ns [] ys h = h
  among_rest ns (x ∷ xs) ys h = among_rest ns xs ys h.1

  -- a log that goes on has nothing more, where all its events are of numbers of which it has none more
  pub same_log : (n : ℕ) (cs : List (Claim E)) (xs ys own : List E) → AreAmong by (n ∷ map number_of cs) (xs ++ ys) → told_by by n (xs ++ ys) ≡ own → told_by by n xs ≡ own → Account by (xs ++ ys) cs → Account by xs cs → ys ≡ []
  same_log n cs xs [] own all whole front wholes fronts = refl
  same_log n cs xs (y ∷ ys) own all whole front wholes fronts =
      let here : IsAmong (by y) (n ∷ map number_of cs) = (among_rest (n ∷ map number_of cs) xs (y ∷ ys) all).0 in
      let first = not_of n xs y ys own whole front in
      let rest = none_of xs y ys cs wholes fronts in
      absurd (omega arith)

plain_account : (log : List Noted) (cs : List (Claim Noted)) → Account noted_by log cs → Account seat_of (events_of log) (map plain_claim cs)
plain_account log [] h = tt
plain_account log (c ∷ cs) h = (own-events c.number log ∙ ap events_of h.0, plain_account log cs h.1)

plain_among : (ns : List ℕ) (log : List Noted) → AreAmong noted_by ns log → AreAmong seat_of ns (events_of log)
plain_among ns [] h = tt
plain_among ns (x ∷ xs) h = (h.0, plain_among ns xs h.1)

pub plain-account : (v : LockSeat) (log : List Noted) → told_by noted_by v.number log ≡ v.own → Account noted_by log v.taken_over → AreAmong noted_by (numbers_in v) log → IsAccount v (events_of log)
plain-account v log own others all = record {
  own = own-events v.number log ∙ ap events_of own;
  taken_over = plain_account log v.taken_over others;
  all = plain_among (numbers_in v) log all;
}

-- the book that the last seat gets at the close has the log that it saw
pub book_seen : (v : LockSeat) (b : BookView) → IsPrefix v.seen (noted_of b) → told_by noted_by v.number (noted_of b) ≡ v.own → told_by noted_by v.number v.seen ≡ v.own → Account noted_by (noted_of b) v.taken_over → Account noted_by v.seen v.taken_over → AreAmong noted_by (numbers_in v) (noted_of b) → noted_of b ≡ v.seen
book_seen v b p own heard others told all =
    let none : p.0 ≡ [] = same_log noted_by v.number v.taken_over v.seen p.0 v.own
    (subst (AreAmong noted_by (numbers_in v)) (sym p.1) all) (ap (told_by noted_by v.number) p.1 ∙ own) heard
    (subst (λ (z : List Noted). Account noted_by z v.taken_over) (sym p.1) others) told in
    sym p.1 ∙ (ap (λ z. v.seen ++ z) none ∙ append-nil v.seen)

-- so no ticket is left in it
pub quiet_book : (v : LockSeat) (b : BookView) → noted_of b ≡ v.seen → b.lock ≡ lock_run start (moves_of b.log) → (lock_at v).rows ≡ [] → b.lock.rows ≡ []
quiet_book v b is lock quiet =
    let log : b.log ≡ events_of v.seen = sym (events-noted b.log b.notes) ∙ ap events_of is in
    ap (λ (l : Lock). l.rows) (lock ∙ ap (λ z. lock_run start (moves_of z)) log) ∙ quiet

pub none_least : (rows : List LockRow) (t : ℕ) → rows ≡ [] → IsLeastTicket rows t → ⊥
none_least rows t none h = let here : IsSome (row_at t []) = subst (λ (z : List LockRow). IsSome (row_at t z)) none h.here in absurd cc

-- what the seat knows at the end, it knew before the last look
pub quiet_before : (v w : LockSeat) (log : List Event) (cells : List PoolState) (table : TableView) (faults : ℕ) → IsLater (lock_counted v 0) w → w.own ≡ v.own → IsQuiet w log cells table faults → IsQuiet v log cells table faults
quiet_before v w log cells table faults later own q = record {
  alone = rw (← later.number, ← later.taken_over, ← later.made) q.alone;
  seen = (
    events_of later.more ++ q.seen.0,
    sym (append_assoc (events_of v.seen) (events_of later.more) q.seen.0) ∙ (ap (λ z. z ++ q.seen.0) (sym (map-append (λ (x : Noted). x.event) v.seen later.more) ∙ ap events_of (sym later.seen)) ∙ q.seen.1),
  );
  account = record {
    own = ap (λ n. own_of n log) (sym later.number) ∙ (q.account.own ∙ ap events_of own);
    taken_over = subst (λ (cs : List (Claim Noted)). Account seat_of log (map plain_claim cs)) later.taken_over q.account.taken_over;
    all = rw (← later.number, ← later.taken_over) q.account.all;
  };
  history = rw (← later.opening) q.history;
  released = q.released;
  part = rw (← later.opening) q.part;
  slack = rw (← later.opening) q.slack;
  faults_are = q.faults_are;
}
