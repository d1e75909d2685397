-- a call arrives at a book between two calls, and is granted what it wants
use Rattle.std.proofs.Common.{ℕ, ◌≡◌, ◌+◌, ◌*◌, ◌<◌, ◌≤◌, ◌^◌, ◌==◌, List, [], ◌∷◌, ◌++◌, map, length, filter, Bool, true, false, ◌&&◌, cond, Option, Some, None, Result, Ok, Err, refl, sym, ap, ◌∙◌, subst, arith, append_assoc, length-append}
use Rattle.std.proofs.lemmas.Grind.{common_steps}
use Rattle.std.specs.Prelude.{IfOk, IfSome, IsSome, nat_lt}
use Rattle.st_grants.specs.Order.{IsLeastTicket}
use Rattle.std.proofs.lemmas.Bool.Decides.{nat_tests}
use Rattle.st_wants.specs.declared.want.Want.{Want}
use Rattle.st_wants.specs.declared.row.LockRow.{LockRow}
use Rattle.st_wants.specs.Wants.{conflict}
use Rattle.st_wants.specs.Lock.{Lock, IsLeastBlocker, IsWaiting, keeps_back, row_at, new_row, marked, arrived, granted, released, start}
use Rattle.st_model.specs.declared.state.EngineState.{EngineState}
use Rattle.st_model.specs.declared.state.PoolState.{PoolState}
use Rattle.st_model.specs.declared.state.TableState.{TableState}
use Rattle.st_model.specs.Look.{is_started}
use Rattle.st_model.specs.Parts.{started, table_of}
use Rattle.st_model.specs.Valid.{IsValid}
use Rattle.st_history.specs.declared.log.Event.{Event}
use Rattle.st_history.specs.declared.log.Event.TheVariants.{Arrive, Grant, Release}
use Rattle.st_history.specs.History.{replay, idle}
use Rattle.st_history.proofs.Failures.{failures-few}
use Rattle.st_history.proofs.Snoc.{replay-snoc}
use Rattle.st_book.specs.Stands.{Stands}
use Rattle.st_book.specs.View.{BookView, lent_at, lent_sum}
use Rattle.st_book.proofs.Lending.{lent_left, left_of}
use Rattle.st_alone.specs.Alone.{IsHome, IsOut}

pub own_ticket : (t : ℕ) → (t == t) ≡ true
own_ticket t = grind (arith, common_steps)

-- the one row of the lock, after the arrival and after the grant
pub row_arrived : (seat : ℕ) (l : Lock) (t : ℕ) (want : Want) → l ≡ idle l.next → t ≡ l.next → row_at t (arrived seat want l).rows ≡ Some (new_row t seat want)
row_arrived seat l t want quiet is =
    let rows : l.rows ≡ [] = ap (λ (x : Lock). x.rows) quiet in
    let same = own_ticket t in
    rw (rows, sym is, same) refl

pub row_granted : (seat t : ℕ) (want : Want) → row_at t (granted t (arrived seat want (idle t))).rows ≡ Some (marked t (new_row t seat want))
row_granted seat t want = let same = own_ticket t in rw same refl

pub lock_idle : (seat t : ℕ) (want : Want) → released t (granted t (arrived seat want (idle t))) ≡ idle (t + 1)
lock_idle seat t want = let same = own_ticket t in rw same refl

-- a ticket that is alone isn't kept back
alone_unblocked : (seat : ℕ) (want : Want) (t u : ℕ) → IsLeastBlocker (arrived seat want (idle t)) t u → ⊥
alone_unblocked seat want t u h = here (t == u) (t == t) h.blocks.blocker_at h.blocks.own_at h.blocks.back
  where
    not_below : (w : Bool) → (w && nat_lt t t) ≡ true → ⊥
    not_below true e = absurd (let low : t < t = grind (arith, nat_tests) in omega (arith, low))
    not_below false e = absurd cc

    here : (a b : Bool) → cond a (Some (new_row t seat want)) None ≡ Some h.blocks.blocker → cond b (Some (new_row t seat want)) None ≡ Some h.blocks.own → keeps_back h.blocks.blocker h.blocks.own ≡ true → ⊥
    here true true e f k =
        let one : new_row t seat want ≡ h.blocks.blocker = cc in
        let two : new_row t seat want ≡ h.blocks.own = cc in
        not_below (conflict want want) (rw (sym one, sym two) at k)
    here true false e f k = absurd cc
    here false b e f k = absurd cc

told_none : IsSome {T = LockRow} None → ⊥
told_none h = absurd cc

-- where no ticket is out there is no least one
pub none_least : (l : Lock) (t : ℕ) → l ≡ idle l.next → IsLeastTicket l.rows t → ⊥
none_least l t quiet h = let rows : l.rows ≡ [] = ap (λ (x : Lock). x.rows) quiet in let told = rw rows at h.here in told_none told

pub if_ok_then : {T E : Type 0} (r : Result T E) (P Q : T → Type 0) → ((x : T) → P x → Q x) → IfOk r P → IfOk r Q
if_ok_then (Ok x) P Q f h = f x h
if_ok_then (Err e) P Q f h = tt

-- a book that begins
pub home_at : (s : EngineState) (base : ℕ) (t : TableState) (b : BookView) → IsValid s → table_of s ≡ t → started s ≡ [] → b.lock ≡ start → b.log ≡ []
    → ((x : EngineState) → table_of x ≡ t → started x ≡ [] → Stands x base b) → IsHome s base b
home_at s base t b valid is none lock log stands = record {
  stands = stands s is none;
  valid = rw log valid;
  quiet = lock ∙ ap idle (sym (ap (λ (l : Lock). l.next) lock));
}

-- ---- a call that is granted

module _ (seat : ℕ) (s0 : EngineState) (base : ℕ) (b0 b1 b2 : BookView) (t : ℕ) (want : Want) (home : IsHome s0 base b0) (ticket : t ≡ b0.lock.next)
    (arrival : b1 ≡ record b0 { lock = arrived seat want b0.lock; log = b0.log ++ Arrive seat t want ∷ [] }) (stands1 : (s : EngineState) (base : ℕ) → Stands s base b0 → Stands s base b1) where
  pub first : Stands s0 base b1
  first = stands1 s0 base home.stands

  pub row1 : row_at t b1.lock.rows ≡ Some (new_row t seat want)
  row1 = ap (λ (b : BookView). row_at t b.lock.rows) arrival ∙ row_arrived seat b0.lock t want home.quiet ticket

  -- what is said of the ticket's row
  pub of_row : (P : LockRow → Type 0) → IfSome (row_at t b1.lock.rows) P → P (new_row t seat want)
  of_row P h = let told = rw row1 at h in told

  pub is_waiting : IsWaiting b1.lock t
  is_waiting = rw row1 refl

  idle_at : b0.lock ≡ idle t
  idle_at = home.quiet ∙ ap idle (sym ticket)

  lock1 : b1.lock ≡ arrived seat want (idle t)
  lock1 = ap (λ (b : BookView). b.lock) arrival ∙ ap (arrived seat want) idle_at

  -- it is the only ticket, so nothing keeps it back
  pub not_blocked : (u : ℕ) → IsLeastBlocker b1.lock t u → ⊥
  not_blocked u h = alone_unblocked seat want t u (subst (λ (l : Lock). IsLeastBlocker l t u) lock1 h)

  log1 : b1.log ≡ b0.log ++ Arrive seat t want ∷ []
  log1 = ap (λ (b : BookView). b.log) arrival

  pub state1 : replay s0 b1.log ≡ replay s0 b0.log
  state1 = ap (replay s0) log1 ∙ replay-snoc s0 b0.log (Arrive seat t want)

  module _ (locked : b2.lock ≡ granted t b1.lock) (logged : IfSome (row_at t b1.lock.rows) (λ r. b2.log ≡ b1.log ++ Grant r.seat t ∷ [])) where
    log2 : b2.log ≡ b1.log ++ Grant seat t ∷ []
    log2 = of_row (λ (r : LockRow). b2.log ≡ b1.log ++ Grant r.seat t ∷ []) logged

    pub taken_log : b2.log ≡ b0.log ++ Arrive seat b0.lock.next want ∷ Grant seat b0.lock.next ∷ []
    taken_log = log2 ∙ ap (λ (l : List Event). l ++ Grant seat t ∷ []) log1 ∙ append_assoc b0.log (Arrive seat t want ∷ []) (Grant seat t ∷ []) ∙ ap (λ (x : ℕ). b0.log ++ Arrive seat x want ∷ Grant seat x ∷ []) ticket

    pub taken_state : replay s0 b2.log ≡ replay s0 b0.log
    taken_state = ap (replay s0) log2 ∙ replay-snoc s0 b1.log (Grant seat t) ∙ state1

    pub taken_out : Stands s0 base b2 → IsOut s0 base seat t want b2
    taken_out stands = record {
      stands = stands;
      valid = subst IsValid (sym taken_state) home.valid;
      lock = locked ∙ ap (λ (b : BookView). granted t b.lock) arrival ∙ ap (λ (l : Lock). granted t (arrived seat want l)) idle_at;
    }

    -- with how many faults its part went out
    pub taken_faults : (faults : ℕ) → Stands s0 base b2 → (length b1.log < 2 ^ 62 → lent_at t b2.lent ≡ faults) → length b2.log < 2 ^ 62 → (lent_at t b2.lent ≡ faults) × (lent_at t b2.lent < 2 ^ 63)
    taken_faults faults stands lent short =
        let longer : length b2.log ≡ length b1.log + 1 = ap length log2 ∙ length-append b1.log (Grant seat t ∷ []) in
        let mine = lent (omega (arith, short, longer)) in
        let counted = stands.faults short in
        let few = failures-few s0 b2.log stands.history in
        let part = lent_left t b2.lent in
        (mine, omega (arith, short, counted, few, part))
