-- a grant in a turn
use Rattle.std.proofs.Common.{ℕ, ◌≡◌, ◌<◌, ◌^◌, ◌==◌, inl, inr, Bool, true, false, ◌||◌, List, [], ◌∷◌, ◌++◌, length, refl, ap, sym, ◌∙◌, subst, arith, length-append}
use Rattle.std.specs.Prelude.{Result, Ok, Err, IfOk, IfErr, IfSome, IsSomeAnd, OnOk, OnErr, option_map, Some}
use Rattle.std.proofs.lemmas.Bool.Decides.{nat_tests}
use Rattle.std.proofs.lemmas.List.{append-nil}
use mathlib.Core.List.{IsPrefix}
use Rattle.st_turn.specs.Lists.{told_by, AreBy}
use Rattle.st_wants.specs.declared.row.LockRow.{LockRow}
use Rattle.st_wants.specs.Lock.{Lock, row_at, start, marked, granted, IsLive, IsLeastBlocker}
use Rattle.st_wants.specs.Rules.{lock_run}
use Rattle.st_grants.proofs.Lookups.{ticket_of}
use Rattle.st_grants.proofs.Sound.{row_marks, some_and, or_true}
use Rattle.st_model.specs.declared.state.EngineState.{EngineState}
use Rattle.st_history.specs.declared.log.Event.{Event}
use Rattle.st_history.specs.declared.log.Event.TheVariants.{Grant}
use Rattle.st_history.specs.History.{moves_of, replay}
use Rattle.st_history.specs.Own.{row_told}
use Rattle.st_history.proofs.Failures.{failures-few}
use Rattle.st_history.proofs.Snoc.{replay-snoc}
use Rattle.st_book.specs.declared.noted.Noted.{Noted}
use Rattle.st_book.specs.declared.part.Part.{Part}
use Rattle.st_book.specs.Noted.{noted_log, numbers_past, grant_count, grant_with, IsNoted}
use Rattle.st_book.specs.View.{BookView, lent_at}
use Rattle.st_book.proofs.Lending.{lent_left}
use Rattle.st_book.proofs.Numbers.{noted-granted}
use Rattle.st_lock.specs.declared.guard.Guard.{Guard}
use Rattle.st_lock.specs.declared.guard.Ticket.{Ticket}
use Rattle.st_lock.specs.declared.guard.Tried.{Tried}
use Rattle.st_lock.specs.declared.guard.Tried.TheVariants.{Granted, NotYet}
use Rattle.st_lock.specs.Outcomes.{IfGranted, IfNotYet}
use Rattle.st_lock.specs.Opening.{noted_by, noted_of, events_of, Fits}
use Rattle.st_lock.specs.Seats.{LockSeat, own_row}
use Rattle.st_lock.proofs.Back.{own_at, own_seat}
use Rattle.st_lock.proofs.Turns.{events-noted}

-- what a seat's waiting ticket is in the book that it took
pub record Waits (v : LockSeat) (b : BookView) (t : ℕ) : Type 0 where
  pub row : LockRow
  pub told : own_row t v ≡ Some row
  pub waits : row.live ≡ false
  pub at : row_at t b.lock.rows ≡ Some row
  pub seat : row.seat ≡ v.number

pub waits_in : (v : LockSeat) (b : BookView) (t : ℕ) → IsPrefix v.seen (noted_log b.log b.notes) → told_by noted_by v.number (noted_log b.log b.notes) ≡ v.own → Fits v.opening b → IsSomeAnd (own_row t v) (λ r. r.live ≡ false) → Waits v b t
waits_in v b t p own fits h =
    let told = some_and (λ (r : LockRow). r.live ≡ false) (own_row t v) h in
    record { row = told.0; told = told.1; waits = told.2; at = own_at v b t told.0 p own fits told.1; seat = own_seat v b t told.0 p own fits told.1 }

pub grant_goes : {P : Type 0} (o : Result P ℕ) (k : P → ℕ) (b n : BookView) (t seat : ℕ) (r : LockRow) → row_at t b.lock.rows ≡ Some r → r.seat ≡ seat → length b.notes ≡ grant_count b.log
    → OnOk o (IfSome (row_at t b.lock.rows) (λ q. n.log ≡ b.log ++ Grant q.seat t ∷ [])) → IfOk o (λ p. n.notes ≡ b.notes ++ k p ∷ []) → OnErr o (n ≡ b)
    → (more : List Noted) × (noted_of n ≡ noted_of b ++ more) × AreBy noted_by seat more × IfOk o (λ p. more ≡ grant_with seat t (k p) ∷ []) × OnErr o (more ≡ [])
grant_goes (Ok p) k b n t seat r at is len log notes same =
    let log' : n.log ≡ b.log ++ Grant r.seat t ∷ [] = rw at at log in
    let log'' : n.log ≡ b.log ++ Grant seat t ∷ [] = log' ∙ ap (λ z. b.log ++ Grant z t ∷ []) is in
    let logs : noted_of n ≡ noted_log (b.log ++ Grant seat t ∷ []) (b.notes ++ k p ∷ []) = rw (log'', notes) refl in
    (grant_with seat t (k p) ∷ [], logs ∙ noted-granted b.log b.notes seat t (k p) len, (refl, tt), refl, tt)
grant_goes (Err u) k b n t seat r at is len log notes same = ([], ap noted_of same ∙ sym (append-nil (noted_of b)), tt, tt, refl)

module _ {C T I J : Type 0} where
  pub guard_if : (o : Result (Part C T I J) ℕ) (r : Tried C T I J) (t : ℕ) (R : Guard C T I J → Type 0) → IfGranted r (λ g. (g.ticket ≡ t) × (o ≡ Ok g.part)) → ((g : Guard C T I J) → g.ticket ≡ t → o ≡ Ok g.part → R g) → IfGranted r R
  guard_if o (Granted g) t R h f = f g h.0 h.1
  guard_if o (NotYet k u) t R h f = tt

  pub guard_none : (o : Result (Part C T I J) ℕ) (r : Tried C T I J) (t : Ticket) (X : Type 0) → IfNotYet r (λ k u. (k ≡ t) × (o ≡ Err u)) → OnErr o X → IfNotYet r (λ k u. X)
  guard_none o (Granted g) t X h f = tt
  guard_none o (NotYet k u) t X h f = subst (λ z. OnErr z X) h.1 f

  pub guard_blocked : (o : Result (Part C T I J) ℕ) (r : Tried C T I J) (t : Ticket) (l m : Lock) → IfNotYet r (λ k u. (k ≡ t) × (o ≡ Err u)) → OnErr o (l ≡ m) → IfErr o (IsLeastBlocker l t.number) → IfNotYet r (λ k u. (k ≡ t) × IsLeastBlocker m t.number u)
  guard_blocked o (Granted g) t l m h same f = tt
  guard_blocked o (NotYet k u) t l m h same f =
      let is : l ≡ m = subst (λ z. OnErr z (l ≡ m)) h.1 same in
      (h.0, subst (λ z. IsLeastBlocker z t.number u) is (subst (λ z. IfErr z (IsLeastBlocker l t.number)) h.1 f))

-- the lock and the state, as far as the seat has then seen the log
pub seen_lock : {P : Type 0} (o : Result P ℕ) (st : EngineState) (b n : BookView) (xs : List Noted) → xs ≡ noted_of n → OnErr o (n ≡ b) → b.lock ≡ lock_run start (moves_of b.log) → OnErr o (b.lock ≡ lock_run start (moves_of (events_of xs)))
seen_lock (Ok p) st b n xs is same h = tt
seen_lock (Err e) st b n xs is same h =
    let log : events_of xs ≡ b.log = ap events_of is ∙ (events-noted n.log n.notes ∙ ap (λ (z : BookView). z.log) same) in
    h ∙ ap (λ z. lock_run start (moves_of z)) (sym log)

pub seen_state : (st : EngineState) (b n : BookView) (xs : List Noted) (t seat : ℕ) → xs ≡ noted_of n → n.log ≡ b.log ++ Grant seat t ∷ [] → replay st b.log ≡ replay st (events_of xs)
seen_state st b n xs t seat is log = sym (ap (λ z. replay st (events_of z)) is ∙ (ap (replay st) (events-noted n.log n.notes) ∙ (ap (replay st) log ∙ replay-snoc st b.log (Grant seat t))))

pub noted_last : (xs : List Noted) (x : Noted) → IsNoted x (xs ++ x ∷ [])
noted_last [] x = inl refl
noted_last (y ∷ ys) x = inr (noted_last ys x)

noted_len : (log : List Event) (ns : List ℕ) → length (noted_log log ns) ≡ length log
noted_len [] ns = refl
noted_len (e ∷ es) ns = let rest = noted_len es (numbers_past e ns) in omega arith

-- while the log is short, the number noted is the number of faults, whole
pub whole_number : (o : EngineState) (base : ℕ) (b n : BookView) (xs : List Noted) (t seat faults cut : ℕ) (r : LockRow) → Fits (record { state = o; base = base }) n → xs ≡ noted_of n → noted_of n ≡ noted_of b ++ grant_with seat t cut ∷ [] → n.lock ≡ granted t b.lock → row_at t b.lock.rows ≡ Some r
    → (length b.log < 2 ^ 62 → lent_at t n.lent ≡ faults) → length xs < 2 ^ 62 → cut ≡ faults
whole_number o base b n xs t seat faults cut r fits is goes lock at lent short =
    let long : length xs ≡ length (noted_of b ++ grant_with seat t cut ∷ []) = ap length (is ∙ goes) in
    let both = length-append (noted_of b) (grant_with seat t cut ∷ []) in
    let len = noted_len b.log b.notes in
    let there : IsNoted (grant_with seat t cut) (noted_of n) = subst (λ z. IsNoted (grant_with seat t cut) z) (sym goes) (noted_last (noted_of b) (grant_with seat t cut)) in
    let mine : row_at t (granted t b.lock).rows ≡ Some (marked t r) = row_marks t t b.lock.rows r at in
    let is_t : r.ticket ≡ t = ticket_of t b.lock.rows r at in
    let same : (r.ticket == t) ≡ true = grind (arith, nat_tests) in
    let live : (marked t r).live ≡ true = ap (λ z. r.live || z) same ∙ or_true r.live in
    let alive : IsLive n.lock t = subst (λ (l : Lock). IsLive l t) (sym lock) (rw mine live) in
    sym (fits.stands.noted seat t cut there alive) ∙ lent (omega arith)

-- a call fails at most twice an event, so the faults of what goes out are few
pub few_number : (o : EngineState) (base : ℕ) (b n : BookView) (xs more : List Noted) (t faults : ℕ) → Fits (record { state = o; base = base }) n → xs ≡ noted_of n → noted_of n ≡ noted_of b ++ more
    → (length b.log < 2 ^ 62 → lent_at t n.lent ≡ faults) → length xs < 2 ^ 62 → faults < 2 ^ 63
few_number o base b n xs more t faults fits is goes lent short =
    let long : length xs ≡ length (noted_of n) = ap length is in
    let all : length (noted_of n) ≡ length (noted_of b ++ more) = ap length goes in
    let both = length-append (noted_of b) more in
    let before = noted_len b.log b.notes in
    let len = noted_len n.log n.notes in
    let mine = lent (omega arith) in
    let counted = fits.stands.faults (omega arith) in
    let few = failures-few o n.log fits.stands.history in
    let part = lent_left t n.lent in
    omega arith

pub none_more : {P : Type 0} (o : Result P ℕ) (own new more : List Noted) → new ≡ own ++ more → OnErr o (more ≡ []) → OnErr o (new ≡ own)
none_more (Ok p) own new more is h = tt
none_more (Err e) own new more is h = is ∙ (ap (λ z. own ++ z) h ∙ append-nil own)

pub ok_at : {P : Type 0} (o : Result P ℕ) (p : P) (Q : P → Type 0) → o ≡ Ok p → IfOk o Q → Q p
ok_at o p Q e h = subst (λ z. IfOk z Q) e h

abbrev live_as : LockRow → Bool → LockRow
live_as r z = record r { live = z }

-- the row of a ticket that was just granted
pub row_live : (t : ℕ) (v : LockSeat) (own : List Noted) (b : BookView) (w : Waits v b t) → row_told t (events_of own) ≡ option_map (marked t) (own_row t v) → row_told t (events_of own) ≡ Some (record w.row { live = true })
row_live t v own b w now =
    let is_t : w.row.ticket ≡ t = ticket_of t b.lock.rows w.row w.at in
    let same : (w.row.ticket == t) ≡ true = grind (arith, nat_tests) in
    let live : (w.row.live || (w.row.ticket == t)) ≡ true = ap (λ z. w.row.live || z) same ∙ or_true w.row.live in
    now ∙ (ap (λ o. option_map (marked t) o) w.told ∙ ap (λ z. Some (live_as w.row z)) live)

pub if_ok : {P E : Type 0} (o : Result P E) (Q R : P → Type 0) → ((p : P) → Q p → R p) → IfOk o Q → IfOk o R
if_ok (Ok p) Q R f h = f p h
if_ok (Err e) Q R f h = tt

-- the state after the log of the book, which the seat has then seen
pub seen_here : (st : EngineState) (b : BookView) (xs : List Noted) → xs ≡ noted_of b → replay st b.log ≡ replay st (events_of xs)
seen_here st b xs is = sym (ap (λ z. replay st (events_of z)) is ∙ ap (replay st) (events-noted b.log b.notes))
