-- the machine and the places of a log say the same
use Rattle.std.proofs.Common.{ℕ, zero, suc, ◌≡◌, ◌≢◌, ◌<◌, Bool, true, false, not, ◌&&◌, ◌||◌, List, [], ◌∷◌, ◌++◌, take, Option, Some, refl, sym, ◌∙◌, subst, arith, append_assoc}
use Rattle.std.specs.Prelude.{nat_lt, slice_get, IsSomeAnd}
use Rattle.std.specs.List.{Contains}
use Rattle.std.proofs.lemmas.Bool.Decides.{nat_tests}
use Rattle.std.proofs.lemmas.List.{append-nil}
use Rattle.st_wants.specs.declared.want.Want.{Want}
use Rattle.st_wants.specs.declared.row.LockRow.{LockRow}
use Rattle.st_wants.specs.Wants.{compatible}
use Rattle.st_wants.specs.Lock.{Lock, row_at, keeps_back}
use Rattle.st_wants.specs.Rules.{Move, Arrive, Grant, Release, lock_after, lock_run, May, Obeys}
use Rattle.st_wants.specs.Places.{NotGranted, NotReleased, IsLiveGrant, IsDueGrant, IsDueRelease, MayFollow}
use Rattle.st_grants.proofs.Lookups.{ticket_of, not_back}
use Rattle.st_grants.proofs.Sound.{beside, some_and}
use Rattle.st_grants.proofs.Told.{Told, HasRow, RowTold, told_step}

some_with : {A : Type 0} (P : A → Type 0) (o : Option A) (x : A) → o ≡ Some x → P x → IsSomeAnd o P
some_with P o x e p = subst (λ z. IsSomeAnd z P) (sym e) p

-- a live ticket has a live row
live_row : (past : List Move) (l : Lock) (t : ℕ) (w : Want) → Told past l → IsLiveGrant past t w → (r : LockRow) × (row_at t l.rows ≡ Some r) × (r.want ≡ w) × (r.live ≡ true)
live_row past l t w h g =
    let has : HasRow l g.seat t w = h.back g.seat t w g.arrived g.kept in
    let told : RowTold past t has.row = h.rows t has.row has.at in
    let cases : (b : Bool) → has.row.live ≡ b → has.row.live ≡ true = elim [ true ↦ (λ e. e) | false ↦ (λ e. absurd (told.waits e g.seat g.granted)) ] in
    (has.row, has.at, has.want_is, cases has.row.live refl)

not_released : (past : List Move) (l : Lock) (t : ℕ) → Told past l → NotGranted past t → NotReleased past t
not_released past l t h waits s c = waits s (h.went s t c)

-- a lower row that doesn't keep another back is compatible with it
in_turn : (own q : LockRow) → q.ticket < own.ticket → keeps_back q own ≡ false → compatible q.want own.want ≡ true
in_turn own q lt b =
    let below : nat_lt q.ticket own.ticket ≡ true = grind (arith, nat_tests) in
    let cases : (x y z : Bool) → compatible q.want own.want ≡ x → z ≡ true → (not x && (y || z)) ≡ false → x ≡ true = elim [ true ↦ (λ y z e f g. refl) | false ↦ elim [ true ↦ (λ z e f g. absurd cc) | false ↦ elim [ true ↦ (λ e f g. absurd cc) | false ↦ (λ e f g. absurd cc) ] ] ] in
    cases (compatible q.want own.want) q.live (nat_lt q.ticket own.ticket) refl below b

due_grant : (past : List Move) (l : Lock) (s t : ℕ) → Told past l → May l (Grant s t) → IsDueGrant past s t
due_grant past l s t h may =
    let own = some_and (λ (r : LockRow). (r.live ≡ false) × (r.seat ≡ s)) (row_at t l.rows) may.0 in
    let told : RowTold past t own.0 = h.rows t own.0 own.1 in
    let own_is : own.0.ticket ≡ t = ticket_of t l.rows own.0 own.1 in
    let waits : NotGranted past t = told.waits own.2.0 in
    record {
      want = own.0.want;
      arrived = subst (λ z. Contains past (Arrive z t own.0.want)) own.2.1 told.arrived;
      once = waits;
      beside = λ u v g.
          let r = live_row past l u v h g in
          let p : compatible r.0.want own.0.want ≡ true = beside own.0 r.0 r.3 (not_back l t u own.0 r.0 may.1 own.1 r.1) in
          subst (λ z. compatible z own.0.want ≡ true) r.2 p;
      in_turn = λ u v w lt.
          let has : HasRow l w.seat u v = h.back w.seat u v w.arrived (not_released past l u h w.waits) in
          let u_is : has.row.ticket ≡ u = ticket_of u l.rows has.row has.at in
          let lower : has.row.ticket < own.0.ticket = omega arith in
          let p : compatible has.row.want own.0.want ≡ true = in_turn own.0 has.row lower (not_back l t u own.0 has.row may.1 own.1 has.at) in
          subst (λ z. compatible z own.0.want ≡ true) has.want_is p;
    }

due_release : (past : List Move) (l : Lock) (s t : ℕ) → Told past l → May l (Release s t) → IsDueRelease past s t
due_release past l s t h may =
    let own = some_and (λ (r : LockRow). (r.live ≡ true) × (r.seat ≡ s)) (row_at t l.rows) may in
    let told : RowTold past t own.0 = h.rows t own.0 own.1 in
    record { granted = subst (λ z. Contains past (Grant z t)) own.2.1 (told.granted own.2.0); once = told.kept }

-- what the machine allows may come at this place
pub follows : (past : List Move) (l : Lock) (m : Move) → Told past l → May l m → MayFollow past m
follows past l (Arrive s t w) h may = may ∙ h.count
follows past l (Grant s t) h may = due_grant past l s t h may
follows past l (Release s t) h may = due_release past l s t h may

and_false : (b : Bool) → (b && false) ≡ false
and_false true = refl
and_false false = refl

-- a row that conflicts and is neither live nor lower keeps nothing back
none_back : (past : List Move) (l : Lock) (s t u : ℕ) (own q : LockRow) → Told past l → (d : IsDueGrant past s t) → own.want ≡ d.want → own.ticket ≡ t → row_at u l.rows ≡ Some q → keeps_back q own ≡ true → ⊥
none_back past l s t u own q h d want_is own_is at back =
    let told : RowTold past u q = h.rows u q at in
    let u_is : q.ticket ≡ u = ticket_of u l.rows q at in
    let apart : compatible q.want d.want ≡ true → ⊥ = λ e.
    let f : compatible q.want own.want ≡ true = subst (λ z. compatible q.want z ≡ true) (sym want_is) e in
    let x : (not (compatible q.want own.want) && (q.live || nat_lt q.ticket own.ticket)) ≡ false = rw f refl in
    let y : true ≡ false = sym back ∙ x in
    cc in
    let live : q.live ≡ true → ⊥ = λ e. apart (d.beside u q.want (record { seat = q.seat; arrived = told.arrived; granted = told.granted e; kept = told.kept })) in
    let waits : q.live ≡ false → ⊥ = λ e.
    let cases : (b : Bool) → nat_lt q.ticket own.ticket ≡ b → ⊥ = elim [
      | true ↦ (λ k.
          let lt : q.ticket < own.ticket = grind (arith, nat_tests) in
          let lower : u < t = omega arith in
          apart (d.in_turn u q.want (record { seat = q.seat; arrived = told.arrived; waits = told.waits e }) lower))
      | false ↦ (λ k.
          let z : (not (compatible q.want own.want) && (q.live || nat_lt q.ticket own.ticket)) ≡ (not (compatible q.want own.want) && false) = rw (e, k) refl in
          let n : (not (compatible q.want own.want) && false) ≡ false = and_false (not (compatible q.want own.want)) in
          let y : true ≡ false = sym back ∙ (z ∙ n) in
          cc)
    ] in
    cases (nat_lt q.ticket own.ticket) refl in
    let cases : (b : Bool) → q.live ≡ b → ⊥ = elim [ true ↦ live | false ↦ waits ] in
    cases q.live refl

may_grant : (past : List Move) (l : Lock) (s t : ℕ) → Told past l → IsDueGrant past s t → May l (Grant s t)
may_grant past l s t h d =
    let has : HasRow l s t d.want = h.back s t d.want d.arrived (not_released past l t h d.once) in
    let told : RowTold past t has.row = h.rows t has.row has.at in
    let own_is : has.row.ticket ≡ t = ticket_of t l.rows has.row has.at in
    let cases : (b : Bool) → has.row.live ≡ b → has.row.live ≡ false = elim [ true ↦ (λ e. absurd (d.once has.row.seat (told.granted e))) | false ↦ (λ e. e) ] in (
      some_with (λ (r : LockRow). (r.live ≡ false) × (r.seat ≡ s)) (row_at t l.rows) has.row has.at (cases has.row.live refl, has.seat_is),
      λ u k.
          let same : k.own ≡ has.row = let a = k.own_at in let b = has.at in cc in
          none_back past l s t u has.row k.blocker h d has.want_is own_is k.blocker_at (subst (λ z. keeps_back k.blocker z ≡ true) same k.back),
    )

may_release : (past : List Move) (l : Lock) (s t : ℕ) → Told past l → IsDueRelease past s t → May l (Release s t)
may_release past l s t h d =
    let came = h.came s t d.granted in
    let has : HasRow l s t came.0 = h.back s t came.0 came.1 d.once in
    let told : RowTold past t has.row = h.rows t has.row has.at in
    let cases : (b : Bool) → has.row.live ≡ b → has.row.live ≡ true = elim [ true ↦ (λ e. e) | false ↦ (λ e. absurd (told.waits e s d.granted)) ] in
    some_with (λ (r : LockRow). (r.live ≡ true) × (r.seat ≡ s)) (row_at t l.rows) has.row has.at (cases has.row.live refl, has.seat_is)

-- what may come at this place the machine allows
pub may_come : (past : List Move) (l : Lock) (m : Move) → Told past l → MayFollow past m → May l m
may_come past l (Arrive s t w) h d = d ∙ sym h.count
may_come past l (Grant s t) h d = may_grant past l s t h d
may_come past l (Release s t) h d = may_release past l s t h d

more_past : (past : List Move) (m : Move) (ms : List Move) → (past ++ m ∷ []) ++ ms ≡ past ++ m ∷ ms
more_past past m ms = append_assoc past (m ∷ []) ms

pub places_of : (past : List Move) (l : Lock) (ms : List Move) → Told past l → Obeys l ms → (i : ℕ) (m : Move) → slice_get ms i ≡ Some m → MayFollow (past ++ take i ms) m
places_of past l [] h o i m at = absurd cc
places_of past l (x ∷ ms) h o zero m at =
    let e : x ≡ m = cc in
    subst (λ z. MayFollow z m) (sym (append-nil past)) (follows past l m h (subst (May l) e o.0))
places_of past l (x ∷ ms) h o (suc i) m at =
    subst (λ z. MayFollow z m) (more_past past x (take i ms)) (places_of (past ++ x ∷ []) (lock_after l x) ms (told_step past l x o.0 h) o.1 i m at)

pub obeys_places : (past : List Move) (l : Lock) (ms : List Move) → Told past l → ((i : ℕ) (m : Move) → slice_get ms i ≡ Some m → MayFollow (past ++ take i ms) m) → Obeys l ms
obeys_places past l [] h p = tt
obeys_places past l (x ∷ ms) h p =
    let may : May l x = may_come past l x h (subst (λ z. MayFollow z x) (append-nil past) (p zero x refl)) in
    (may, obeys_places (past ++ x ∷ []) (lock_after l x) ms (told_step past l x may h) (λ i m at. subst (λ z. MayFollow z m) (sym (more_past past x (take i ms))) (p (suc i) m at)))

pub told_at : (past : List Move) (l : Lock) (ms : List Move) (i : ℕ) → Told past l → Obeys l ms → Told (past ++ take i ms) (lock_run l (take i ms))
told_at past l [] zero h o = subst (λ z. Told z l) (sym (append-nil past)) h
told_at past l [] (suc i) h o = subst (λ z. Told z l) (sym (append-nil past)) h
told_at past l (x ∷ ms) zero h o = subst (λ z. Told z l) (sym (append-nil past)) h
told_at past l (x ∷ ms) (suc i) h o = subst (λ z. Told z (lock_run (lock_after l x) (take i ms))) (more_past past x (take i ms)) (told_at (past ++ x ∷ []) (lock_after l x) ms i (told_step past l x o.0 h) o.1)

-- live grants are compatible, whatever led to the lock
pub live_apart : (past : List Move) (l : Lock) (t u : ℕ) (w v : Want) → Told past l → IsLiveGrant past t w → IsLiveGrant past u v → t ≢ u → compatible w v ≡ true
live_apart past l t u w v h g k ne =
    let r = live_row past l t w h g in
    let q = live_row past l u v h k in
    let p : compatible r.0.want q.0.want ≡ true = h.sound.apart t u r.0 q.0 r.1 q.1 r.3 q.3 ne in
    subst (λ z. compatible w z ≡ true) q.2 (subst (λ z. compatible z q.0.want ≡ true) r.2 p)
