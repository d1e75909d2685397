-- a seat that makes each arrival, grant and release in one turn obeys the rule
use Rattle.std.proofs.Common.{ℕ, ◌≡◌, ◌+◌, ◌==◌, Bool, true, false, not, ◌&&◌, List, [], ◌∷◌, ◌++◌, Some, refl, ap, sym, ◌∙◌, subst, arith}
use Rattle.std.specs.Prelude.{nat_lt, IsSomeAnd}
use Rattle.std.proofs.lemmas.Bool.Decides.{nat_tests}
use Rattle.st_wants.specs.declared.want.Want.{Want}
use Rattle.st_wants.specs.declared.row.LockRow.{LockRow}
use Rattle.st_wants.specs.Lock.{Lock, row_at, new_row, start, granted, IsFree, keeps_back}
use Rattle.st_wants.specs.Wants.{compatible}
use Rattle.st_wants.specs.Rules.{Move, Arrive, Grant, Release, lock_after, lock_run, Obeys}

pub lock_run_append : (l : Lock) (ms ns : List Move) → lock_run l (ms ++ ns) ≡ lock_run (lock_run l ms) ns
lock_run_append l [] ns = refl
lock_run_append l (m ∷ ms) ns = lock_run_append (lock_after l m) ms ns

pub obeys_append : (l : Lock) (ms ns : List Move) → Obeys l ms → Obeys (lock_run l ms) ns → Obeys l (ms ++ ns)
obeys_append l [] ns o p = p
obeys_append l (m ∷ ms) ns o p = (o.0, obeys_append (lock_after l m) ms ns o.1 p)

-- n tickets came and went
abbrev pub empty_at : ℕ → Lock
empty_at n = record { next = n; rows = [] }

-- a ticket's three moves
abbrev pub turn : ℕ → ℕ → Want → List Move
turn s t w = Arrive s t w ∷ Grant s t ∷ Release s t ∷ []

same_ticket : (n : ℕ) → (n == n) ≡ true
same_ticket n = grind (arith, nat_tests)

not_lower : (n : ℕ) → nat_lt n n ≡ false
not_lower n = grind (arith, nat_tests)

-- the lock with one row
abbrev alone : LockRow → Lock
alone r = record { next = r.ticket + 1; rows = r ∷ [] }

alone_at : (r : LockRow) → row_at r.ticket (alone r).rows ≡ Some r
alone_at r = rw (same_ticket r.ticket) refl

alone_only : (r q : LockRow) (u : ℕ) → row_at u (alone r).rows ≡ Some q → q ≡ r
alone_only r q u h =
    let cases : (b : Bool) → (r.ticket == u) ≡ b → row_at u (alone r).rows ≡ Some q → q ≡ r = elim [ true ↦ (λ e k. let k' = rw e at k in cc) | false ↦ (λ e k. let k' = rw e at k in absurd cc) ] in
    cases (r.ticket == u) refl h

and_false : (b : Bool) → (b && false) ≡ false
and_false true = refl
and_false false = refl

-- no ticket that waits keeps itself back
no_back : (r : LockRow) → r.live ≡ false → keeps_back r r ≡ false
no_back r waits =
    let e : keeps_back r r ≡ (not (compatible r.want r.want) && false) = rw (waits, not_lower r.ticket) refl in
    e ∙ and_false (not (compatible r.want r.want))

alone_free : (r : LockRow) (t : ℕ) → r.live ≡ false → IsFree (alone r) t
alone_free r t waits u k =
    let b : k.blocker ≡ r = alone_only r k.blocker u k.blocker_at in
    let o : k.own ≡ r = alone_only r k.own t k.own_at in
    let back : keeps_back r r ≡ true = subst (λ z. keeps_back z r ≡ true) b (subst (λ z. keeps_back k.blocker z ≡ true) o k.back) in
    let n : keeps_back r r ≡ false = no_back r waits in
    let x : true ≡ false = sym back ∙ n in
    cc

pub turn_run : (s n : ℕ) (w : Want) → lock_run (empty_at n) (turn s n w) ≡ empty_at (n + 1)
turn_run s n w = rw (same_ticket n) refl

pub turn_obeys : (s n : ℕ) (w : Want) → Obeys (empty_at n) (turn s n w)
turn_obeys s n w =
    let r : LockRow = new_row n s w in
    let waiting : IsSomeAnd (row_at n (alone r).rows) (λ q. (q.live ≡ false) × (q.seat ≡ s)) = rw (alone_at r) (refl, refl) in
    let live : IsSomeAnd (row_at n (granted n (alone r)).rows) (λ q. (q.live ≡ true) × (q.seat ≡ s)) = rw (same_ticket n) (refl, refl) in
    (refl, ((waiting, alone_free r n refl), (live, tt)))

-- a log after which no ticket is left may go on with a turn, and none is left again
pub obeys_turn : (log : List Move) (s n : ℕ) (w : Want) → Obeys start log → lock_run start log ≡ empty_at n → Obeys start (log ++ turn s n w)
obeys_turn log s n w o e = obeys_append start log (turn s n w) o (subst (λ z. Obeys z (turn s n w)) (sym e) (turn_obeys s n w))

pub run_turn : (log : List Move) (s n : ℕ) (w : Want) → lock_run start log ≡ empty_at n → lock_run start (log ++ turn s n w) ≡ empty_at (n + 1)
run_turn log s n w e = lock_run_append start log (turn s n w) ∙ (ap (λ z. lock_run z (turn s n w)) e ∙ turn_run s n w)
