-- what a seat's own events tell of its tickets is so
use Rattle.std.proofs.Common.{ℕ, ◌≡◌, ◌≢◌, ◌==◌, Bool, true, false, ◌||◌, cond, List, [], ◌∷◌, ◌++◌, Some, None, refl, ap, sym, ◌∙◌, subst, arith}
use Rattle.std.specs.Prelude.{Option}
use Rattle.std.proofs.lemmas.Bool.Decides.{nat_tests}
use Rattle.st_wants.specs.declared.want.Want.{Want}
use Rattle.st_wants.specs.declared.row.LockRow.{LockRow}
use Rattle.st_wants.specs.Lock.{Lock, row_at, marked, new_row, start}
use Rattle.st_wants.specs.Rules as rule
use Rattle.st_wants.specs.Rules.{May, lock_after, lock_run}
use Rattle.st_grants.specs.Order.{IsOrdered}
use Rattle.st_grants.proofs.Lookups.{ticket_of}
use Rattle.st_grants.proofs.Sound.{IsSound, sound_start, sound_step, row_keep, row_marks, row_stays, some_and}
use Rattle.st_model.specs.declared.state.EngineState.{EngineState}
use Rattle.st_history.specs.declared.log.Event.{Event}
use Rattle.st_history.specs.declared.log.Event.TheVariants.{Arrive, Grant, Release}
use Rattle.st_history.specs.Agreement.{releases, NotReleased}
use Rattle.st_history.specs.History.{move_of, moves_of, state_past, History, HistoryFrom}
use Rattle.st_history.specs.Own.{seat_of, own_of, row_past, row_from, row_told, OwnTells}

-- what is told of the ticket is so, and the ticket is of this seat
abbrev pub IsTold : ℕ → ℕ → Lock → Option LockRow → Type 0
IsTold n t l row = (q : LockRow) → row ≡ Some q → (row_at t l.rows ≡ Some q) × (q.seat ≡ n)

row_new : (n s : ℕ) (w : Want) (rs : List LockRow) → IsOrdered rs n → row_at n (rs ++ new_row n s w ∷ []) ≡ Some (new_row n s w)
row_new n s w [] o = let same : (n == n) ≡ true = grind (arith, nat_tests) in rw same refl
row_new n s w (r ∷ rs) o = let other : (r.ticket == n) ≡ false = let lt = o.0 in grind (arith, nat_tests) in rw other (row_new n s w rs o.2)

-- an event of the seat
told_own : (n t : ℕ) (l : Lock) (row : Option LockRow) (e : Event) → IsSound l → May l (move_of e) → seat_of e ≡ n → IsTold n t l row → IsTold n t (lock_after l (move_of e)) (row_past t row e)
told_own n t l row (Arrive s u w) i may is h q k =
    let cases : (b : Bool) → (u == t) ≡ b → cond b (Some (new_row u s w)) row ≡ Some q → (row_at t (l.rows ++ new_row l.next s w ∷ []) ≡ Some q) × (q.seat ≡ n) = elim [
      | true ↦ (λ e g.
          let ut : u ≡ t = grind (arith, nat_tests) in
          let nt : l.next ≡ t = sym may ∙ ut in
          let q_is : new_row u s w ≡ q = cc in
          let here = row_new l.next s w l.rows i.ordered in
          let moved : row_at t (l.rows ++ new_row l.next s w ∷ []) ≡ Some (new_row l.next s w) = subst (λ z. row_at z (l.rows ++ new_row l.next s w ∷ []) ≡ Some (new_row l.next s w)) nt here in
          (moved ∙ (ap (λ z. Some (new_row z s w)) (sym may) ∙ ap (λ z. Some z) q_is), ap (λ (z : LockRow). z.seat) (sym q_is) ∙ is))
      | false ↦ (λ e g. let old = h q g in (row_keep t l.rows (new_row l.next s w) q old.0, old.1))
    ] in
    cases (u == t) refl k
told_own n t l None (Grant s u) i may is h q k = absurd cc
told_own n t l (Some p) (Grant s u) i may is h q k =
    let old = h p refl in
    let q_is : marked u p ≡ q = cc in
    (row_marks u t l.rows p old.0 ∙ ap (λ z. Some z) q_is, ap (λ (z : LockRow). z.seat) (sym q_is) ∙ old.1)
told_own n t l row (Release s u es) i may is h q k =
    let cases : (b : Bool) → (u == t) ≡ b → cond b None row ≡ Some q → (row_at t (lock_after l (rule.Release s u)).rows ≡ Some q) × (q.seat ≡ n) = elim [
      | true ↦ (λ e g. absurd cc)
      | false ↦ (λ e g. let old = h q g in (row_stays u t l.rows q (λ z. let yes : (u == t) ≡ true = grind (arith, nat_tests) in cc) old.0, old.1))
    ] in
    cases (u == t) refl k

or_false : (b : Bool) → (b || false) ≡ b
or_false true = refl
or_false false = refl

not_marked : (u : ℕ) (q : LockRow) → (q.ticket == u) ≡ false → marked u q ≡ q
not_marked u q e =
    let live : (q.live || (q.ticket == u)) ≡ q.live = ap (λ b. q.live || b) e ∙ or_false q.live in
    ap (λ b. let r : LockRow = record q { live = b } in r) live

-- an event of another seat leaves the seat's rows
pub row_left_alone : (n t : ℕ) (l : Lock) (q : LockRow) (e : Event) → May l (move_of e) → seat_of e ≢ n → row_at t l.rows ≡ Some q → q.seat ≡ n → row_at t (lock_after l (move_of e)).rows ≡ Some q
row_left_alone n t l q (Arrive s u w) may ne at seat = row_keep t l.rows (new_row l.next s w) q at
row_left_alone n t l q (Grant s u) may ne at seat =
    let own = some_and (λ (r : LockRow). (r.live ≡ false) × (r.seat ≡ s)) (row_at u l.rows) may.0 in
    let is : q.ticket ≡ t = ticket_of t l.rows q at in
    let cases : (b : Bool) → (q.ticket == u) ≡ b → row_at t (lock_after l (rule.Grant s u)).rows ≡ Some q = elim [
      | true ↦ (λ e.
          let qu : q.ticket ≡ u = grind (arith, nat_tests) in
          let tu : u ≡ t = sym qu ∙ is in
          let there : row_at t l.rows ≡ Some own.0 = subst (λ z. row_at z l.rows ≡ Some own.0) tu own.1 in
          let same : q ≡ own.0 = cc in
          absurd (ne (sym own.2.1 ∙ (ap (λ (z : LockRow). z.seat) (sym same) ∙ seat))))
      | false ↦ (λ e. row_marks u t l.rows q at ∙ ap (λ z. Some z) (not_marked u q e))
    ] in
    cases (q.ticket == u) refl
row_left_alone n t l q (Release s u es) may ne at seat =
    let own = some_and (λ (r : LockRow). (r.live ≡ true) × (r.seat ≡ s)) (row_at u l.rows) may in
    row_stays u t l.rows q (λ tu.
    let there : row_at t l.rows ≡ Some own.0 = subst (λ z. row_at z l.rows ≡ Some own.0) tu own.1 in
    let same : q ≡ own.0 = cc in
    ne (sym own.2.1 ∙ (ap (λ (z : LockRow). z.seat) (sym same) ∙ seat))) at

differs : (a n : ℕ) → (a == n) ≡ false → a ≢ n
differs a n e k = let yes : (a == n) ≡ true = grind (arith, nat_tests) in let x : true ≡ false = sym yes ∙ e in cc

own_from : (n t : ℕ) (l : Lock) (s : EngineState) (row : Option LockRow) (log : List Event) → IsSound l → HistoryFrom l s log → IsTold n t l row → IsTold n t (lock_run l (moves_of log)) (row_from t row (own_of n log))
own_from n t l s row [] i h told = told
own_from n t l s row (e ∷ es) i h told =
    let next : Lock = lock_after l (move_of e) in
    let cases : (b : Bool) → (seat_of e == n) ≡ b → IsTold n t (lock_run next (moves_of es)) (row_from t row (cond b (e ∷ own_of n es) (own_of n es))) = elim [
      | true ↦ (λ k. own_from n t next (state_past s e) (row_past t row e) es (sound_step l (move_of e) h.0 i) h.2 (told_own n t l row e i h.0 (let same : seat_of e ≡ n = grind (arith, nat_tests) in same) told))
      | false ↦ (λ k. own_from n t next (state_past s e) row es (sound_step l (move_of e) h.0 i) h.2 (λ q g. let old = told q g in (row_left_alone n t l q e h.0 (differs (seat_of e) n k) old.0 old.1, old.1)))
    ] in
    cases (seat_of e == n) refl

pub own-told : (s : EngineState) (log : List Event) (n t : ℕ) (r : LockRow) → History s log → row_told t (own_of n log) ≡ Some r → (row_at t (lock_run start (moves_of log)).rows ≡ Some r) × (r.seat ≡ n)
own-told s log n t r h k = own_from n t start s None log sound_start h (λ q g. absurd cc) r k

pub own_tells : OwnTells
own_tells s log n t r h k = (own-told s log n t r h k).0

-- Events none of which is the seat's release none of its tickets.
pub none-released : (n t : ℕ) (l : Lock) (s : EngineState) (r : LockRow) (more : List Event) → HistoryFrom l s more → row_at t l.rows ≡ Some r → r.seat ≡ n → own_of n more ≡ [] → NotReleased t more
none-released n t l s r [] h at seat none = tt
none-released n t l s r (e ∷ es) h at seat none =
    let cases : (b : Bool) → (seat_of e == n) ≡ b → cond b (e ∷ own_of n es) (own_of n es) ≡ [] → NotReleased t (e ∷ es) = elim [
      | true ↦ (λ k g. absurd cc)
      | false ↦ (λ k g. (
        unreleased e h.0 (differs (seat_of e) n k),
        none-released n t (lock_after l (move_of e)) (state_past s e) r es h.2 (row_left_alone n t l r e h.0 (differs (seat_of e) n k) at seat) seat g,
      ))
    ] in
    cases (seat_of e == n) refl none
  where
    unreleased : (x : Event) → May l (move_of x) → seat_of x ≢ n → releases t x ≡ false
    unreleased (Arrive a u w) may ne = refl
    unreleased (Grant a u) may ne = refl
    unreleased (Release a u xs) may ne =
        let own = some_and (λ (q : LockRow). (q.live ≡ true) × (q.seat ≡ a)) (row_at u l.rows) may in
        let cases : (b : Bool) → (u == t) ≡ b → b ≡ false = elim [
          | true ↦ (λ k.
              let ut : u ≡ t = grind (arith, nat_tests) in
              let there : row_at t l.rows ≡ Some own.0 = subst (λ z. row_at z l.rows ≡ Some own.0) ut own.1 in
              let same : r ≡ own.0 = cc in
              absurd (ne (sym own.2.1 ∙ (ap (λ (z : LockRow). z.seat) (sym same) ∙ seat))))
          | false ↦ (λ k. refl)
        ] in
        cases (u == t) refl
