-- What the rule keeps: rows in order, and live grants apart.
use Rattle.std.proofs.Common.{ℕ, ◌≡◌, ◌≢◌, ◌==◌, ◌⊎◌, inl, inr, Bool, true, false, not, ◌&&◌, ◌||◌, cond, List, [], ◌∷◌, ◌++◌, map, filter, Option, Some, None, refl, ap, sym, ◌∙◌, subst, arith}
use Rattle.std.specs.Prelude.{nat_lt, IsSomeAnd}
use Rattle.std.proofs.lemmas.Bool.Decides.{nat_tests}
use Rattle.st_wants.specs.declared.want.Want.{Want}
use Rattle.st_wants.specs.Wants.{compatible}
use Rattle.st_wants.proofs.Symmetry.{compatible_comm}
use Rattle.st_wants.specs.declared.row.LockRow.{LockRow}
use Rattle.st_wants.specs.Lock.{Lock, row_at, has_ticket, keeps_back, marked, new_row, start, arrived, granted, released, IsFree}
use Rattle.st_grants.specs.Order.{IsOrdered}
use Rattle.st_wants.specs.Rules.{Move, Arrive, Grant, Release, lock_after, lock_run, May, Obeys, LiveApart}
use Rattle.st_grants.proofs.Lookups.{ticket_of, not_back, ordered_push, ordered_marked, ordered_filter}

pub or_true : (b : Bool) → (b || true) ≡ true
or_true true = refl
or_true false = refl

pub record IsSound (l : Lock) : Type 0 where
  pub ordered : IsOrdered l.rows l.next
  pub apart : LiveApart l

-- a row of a list with one more is an old one, or the one more
pub row_push : (t : ℕ) (rs : List LockRow) (x r : LockRow) → row_at t (rs ++ x ∷ []) ≡ Some r → (row_at t rs ≡ Some r) ⊎ (x ≡ r)
row_push t [] x r h =
    let cases : (b : Bool) → cond b (Some x) None ≡ Some r → (row_at t [] ≡ Some r) ⊎ (x ≡ r) = elim [ true ↦ (λ k. inr (cc)) | false ↦ (λ k. absurd cc) ] in
    cases (has_ticket t x) h
row_push t (y ∷ ys) x r h =
    let cases : (b : Bool) → has_ticket t y ≡ b → cond b (Some y) (row_at t (ys ++ x ∷ [])) ≡ Some r → (cond b (Some y) (row_at t ys) ≡ Some r) ⊎ (x ≡ r) = elim [ true ↦ (λ e k. inl k) | false ↦ (λ e k. row_push t ys x r k) ] in
    cases (has_ticket t y) refl h

-- a row that was there stays found
pub row_keep : (t : ℕ) (rs : List LockRow) (x r : LockRow) → row_at t rs ≡ Some r → row_at t (rs ++ x ∷ []) ≡ Some r
row_keep t [] x r h = absurd cc
row_keep t (y ∷ ys) x r h =
    let cases : (b : Bool) → cond b (Some y) (row_at t ys) ≡ Some r → cond b (Some y) (row_at t (ys ++ x ∷ [])) ≡ Some r = elim [ true ↦ (λ k. k) | false ↦ (λ k. row_keep t ys x r k) ] in
    cases (has_ticket t y) h

-- a marked row comes of the row that was there
pub row_marked : (t u : ℕ) (rs : List LockRow) (r : LockRow) → row_at u (map (marked t) rs) ≡ Some r → (q : LockRow) × (row_at u rs ≡ Some q) × (marked t q ≡ r)
row_marked t u [] r h = absurd cc
row_marked t u (y ∷ ys) r h =
    let cases : (b : Bool) → cond b (Some (marked t y)) (row_at u (map (marked t) ys)) ≡ Some r → (q : LockRow) × (cond b (Some y) (row_at u ys) ≡ Some q) × (marked t q ≡ r) = elim [ true ↦ (λ k. (y, refl, cc)) | false ↦ (λ k. row_marked t u ys r k) ] in
    cases (has_ticket u y) h

pub row_marks : (t u : ℕ) (rs : List LockRow) (q : LockRow) → row_at u rs ≡ Some q → row_at u (map (marked t) rs) ≡ Some (marked t q)
row_marks t u [] q h = absurd cc
row_marks t u (y ∷ ys) q h =
    let cases : (b : Bool) → cond b (Some y) (row_at u ys) ≡ Some q → cond b (Some (marked t y)) (row_at u (map (marked t) ys)) ≡ Some (marked t q) = elim [ true ↦ (λ k. let e : y ≡ q = cc in ap (λ z. Some (marked t z)) e) | false ↦ (λ k. row_marks t u ys q k) ] in
    cases (has_ticket u y) h

-- a released ticket has no row
pub row_gone : (t : ℕ) (rs : List LockRow) → row_at t (filter (λ x. not (has_ticket t x)) rs) ≡ None
row_gone t [] = refl
row_gone t (y ∷ ys) =
    let cases : (a : Bool) → (y.ticket == t) ≡ a → row_at t (cond (not a) (y ∷ filter (λ x. not (has_ticket t x)) ys) (filter (λ x. not (has_ticket t x)) ys)) ≡ None = elim [ true ↦ (λ e. row_gone t ys) | false ↦ (λ e. rw e (row_gone t ys)) ] in
    cases (y.ticket == t) refl

-- any other ticket keeps its row
pub row_stays : (t u : ℕ) (rs : List LockRow) (r : LockRow) → t ≢ u → row_at u rs ≡ Some r → row_at u (filter (λ x. not (has_ticket t x)) rs) ≡ Some r
row_stays t u [] r ne h = h
row_stays t u (y ∷ ys) r ne h =
    let cases : (a b : Bool) → (y.ticket == t) ≡ a → (y.ticket == u) ≡ b → cond b (Some y) (row_at u ys) ≡ Some r → row_at u (cond (not a) (y ∷ filter (λ x. not (has_ticket t x)) ys) (filter (λ x. not (has_ticket t x)) ys)) ≡ Some r = elim [
      | true ↦ elim [
        | true ↦ (λ e f k. let same : t ≡ u = grind (arith, nat_tests) in absurd (ne same))
        | false ↦ (λ e f k. row_stays t u ys r ne k)
      ]
      | false ↦ elim [
        | true ↦ (λ e f k. rw f k)
        | false ↦ (λ e f k. rw f (row_stays t u ys r ne k))
      ]
    ] in
    cases (y.ticket == t) (y.ticket == u) refl refl h

-- a row that is left after a release was there before
pub row_left : (t u : ℕ) (rs : List LockRow) (r : LockRow) → row_at u (filter (λ x. not (has_ticket t x)) rs) ≡ Some r → row_at u rs ≡ Some r
row_left t u [] r h = h
row_left t u (y ∷ ys) r h =
    let cases : (a b : Bool) → (y.ticket == t) ≡ a → (y.ticket == u) ≡ b → row_at u (cond (not a) (y ∷ filter (λ x. not (has_ticket t x)) ys) (filter (λ x. not (has_ticket t x)) ys)) ≡ Some r → cond b (Some y) (row_at u ys) ≡ Some r = elim [
      | true ↦ elim [
        | true ↦ (λ e f k. let same : t ≡ u = grind (arith, nat_tests) in let none : row_at u (filter (λ x. not (has_ticket t x)) ys) ≡ None = subst (λ z. row_at z (filter (λ x. not (has_ticket t x)) ys) ≡ None) same (row_gone t ys) in absurd cc)
        | false ↦ (λ e f k. row_left t u ys r k)
      ]
      | false ↦ elim [
        | true ↦ (λ e f k. let g = rw f at k in g)
        | false ↦ (λ e f k. let g = rw f at k in row_left t u ys r g)
      ]
    ] in
    cases (y.ticket == t) (y.ticket == u) refl refl h

-- an arrival, which isn't live, keeps live grants apart
apart_arrived : (l : Lock) (s : ℕ) (w : Want) → LiveApart l → LiveApart (arrived s w l)
apart_arrived l s w a t u r q ht hu rl ql ne =
    let x : LockRow = new_row l.next s w in
    elim (row_push t l.rows x r ht) [
      | inl i ↦ elim (row_push u l.rows x q hu) [
        | inl j ↦ a t u r q i j rl ql ne
        | inr e ↦ absurd (let no : false ≡ true = ap (λ (z : LockRow). z.live) e ∙ ql in cc)
      ]
      | inr e ↦ absurd (let no : false ≡ true = ap (λ (z : LockRow). z.live) e ∙ rl in cc)
    ]

-- a live row that doesn't keep another back is compatible with it
pub beside : (own q : LockRow) → q.live ≡ true → keeps_back q own ≡ false → compatible q.want own.want ≡ true
beside own q live b =
    let cases : (x y : Bool) → compatible q.want own.want ≡ x → q.live ≡ y → y ≡ true → (not x && (y || nat_lt q.ticket own.ticket)) ≡ false → x ≡ true = elim [ true ↦ (λ y e f g h. refl) | false ↦ elim [ true ↦ (λ e f g h. absurd cc) | false ↦ (λ e f g h. absurd cc) ] ] in
    cases (compatible q.want own.want) q.live refl refl live b

-- the row of the ticket that is granted is compatible with each live one
own_apart : (l : Lock) (t u v : ℕ) (own r q : LockRow) → row_at t l.rows ≡ Some own → IsFree l t → row_at u l.rows ≡ Some r → u ≡ t → row_at v l.rows ≡ Some q → q.live ≡ true → compatible q.want r.want ≡ true
own_apart l t u v own r q at free hu e hv live =
    let hu' : row_at t l.rows ≡ Some r = subst (λ z. row_at z l.rows ≡ Some r) e hu in
    let same : own ≡ r = cc in
    subst (λ (z : LockRow). compatible q.want z.want ≡ true) same (beside own q live (not_back l t v own q free at hv))

pair_apart : (l : Lock) (t u v : ℕ) (own r q : LockRow) → row_at t l.rows ≡ Some own → IsFree l t → LiveApart l → row_at u l.rows ≡ Some r → row_at v l.rows ≡ Some q → u ≢ v
    → (x y m n : Bool) → r.live ≡ x → q.live ≡ y → (r.ticket == t) ≡ m → (q.ticket == t) ≡ n → (x || m) ≡ true → (y || n) ≡ true → compatible r.want q.want ≡ true
pair_apart l t u v own r q at free a hu hv ne true true m n xl yl e f g h = a u v r q hu hv xl yl ne
pair_apart l t u v own r q at free a hu hv ne true false m n xl yl e f g h =
    let vt : v ≡ t = let k : q.ticket ≡ v = ticket_of v l.rows q hv in let k' : (q.ticket == t) ≡ true = f ∙ h in grind (arith, nat_tests) in
    own_apart l t v u own q r at free hv vt hu xl
pair_apart l t u v own r q at free a hu hv ne false true m n xl yl e f g h =
    let ut : u ≡ t = let k : r.ticket ≡ u = ticket_of u l.rows r hu in let k' : (r.ticket == t) ≡ true = e ∙ g in grind (arith, nat_tests) in
    compatible_comm r.want q.want ∙ own_apart l t u v own r q at free hu ut hv yl
pair_apart l t u v own r q at free a hu hv ne false false m n xl yl e f g h =
    let ut : u ≡ t = let k : r.ticket ≡ u = ticket_of u l.rows r hu in let k' : (r.ticket == t) ≡ true = e ∙ g in grind (arith, nat_tests) in
    let vt : v ≡ t = let k : q.ticket ≡ v = ticket_of v l.rows q hv in let k' : (q.ticket == t) ≡ true = f ∙ h in grind (arith, nat_tests) in
    absurd (ne (ut ∙ sym vt))

-- a grant that nothing keeps back keeps live grants apart
apart_granted : (l : Lock) (t : ℕ) (own : LockRow) → row_at t l.rows ≡ Some own → IsFree l t → LiveApart l → LiveApart (granted t l)
apart_granted l t own at free a u v r q hu hv rl ql ne =
    let i = row_marked t u l.rows r hu in
    let j = row_marked t v l.rows q hv in
    let rw' : i.0.want ≡ r.want = ap (λ (z : LockRow). z.want) i.2 in
    let qw : j.0.want ≡ q.want = ap (λ (z : LockRow). z.want) j.2 in
    let rlive : (i.0.live || (i.0.ticket == t)) ≡ true = ap (λ (z : LockRow). z.live) i.2 ∙ rl in
    let qlive : (j.0.live || (j.0.ticket == t)) ≡ true = ap (λ (z : LockRow). z.live) j.2 ∙ ql in
    let p : compatible i.0.want j.0.want ≡ true = pair_apart l t u v own i.0 j.0 at free a i.1 j.1 ne i.0.live j.0.live (i.0.ticket == t) (j.0.ticket == t) refl refl refl refl rlive qlive in
    subst (λ z. compatible r.want z ≡ true) qw (subst (λ z. compatible z j.0.want ≡ true) rw' p)

apart_released : (l : Lock) (t : ℕ) → LiveApart l → LiveApart (released t l)
apart_released l t a u v r q hu hv rl ql ne = a u v r q (row_left t u l.rows r hu) (row_left t v l.rows q hv) rl ql ne

-- what a fact on the value in a `Some` gives
pub some_and : {A : Type 0} (P : A → Type 0) (o : Option A) → IsSomeAnd o P → (x : A) × (o ≡ Some x) × P x
some_and P (Some x) h = (x, refl, h)
some_and P None h = absurd h

pub sound_start : IsSound start
sound_start = record { ordered = tt; apart = λ t u r q h k rl ql ne. absurd cc }

-- each move that the rule allows keeps both
pub sound_step : (l : Lock) (m : Move) → May l m → IsSound l → IsSound (lock_after l m)
sound_step l (Arrive s t w) may i = record { ordered = ordered_push l.rows l.next (new_row l.next s w) refl i.ordered; apart = apart_arrived l s w i.apart }
sound_step l (Grant s t) may i =
    let own = some_and (λ (r : LockRow). (r.live ≡ false) × (r.seat ≡ s)) (row_at t l.rows) may.0 in
    record { ordered = ordered_marked t l.rows l.next i.ordered; apart = apart_granted l t own.0 own.1 may.1 i.apart }
sound_step l (Release s t) may i = record { ordered = ordered_filter (λ x. not (has_ticket t x)) l.rows l.next i.ordered; apart = apart_released l t i.apart }

pub sound_run : (l : Lock) (before after : List Move) → Obeys l (before ++ after) → IsSound l → IsSound (lock_run l before)
sound_run l [] after o i = i
sound_run l (m ∷ ms) after o i = sound_run (lock_after l m) ms after o.1 (sound_step l m o.0 i)
