-- Look-ups of rows, and their order.
use Rattle.std.proofs.Common.{ℕ, ◌≡◌, ◌+◌, ◌<◌, ◌≤◌, ◌==◌, Bool, true, false, cond, List, [], ◌∷◌, ◌++◌, map, filter, Option, Some, None, refl, ap, sym, subst, arith}
use Rattle.std.specs.Prelude.{find}
use Rattle.std.specs.List.{AllByRecursion}
use Rattle.std.proofs.lemmas.Bool.Decides.{nat_tests}
use Rattle.st_wants.specs.declared.row.LockRow.{LockRow}
use Rattle.std.specs.Prelude.{IsSome, slice_get}
use Rattle.st_wants.specs.Lock.{Lock, row_at, has_ticket, keeps_back, marked, IsFree, IsLeastBlocker}
use Rattle.st_grants.specs.Order.{IsOrdered, IsLeastTicket}

-- what a search finds passes the test
pub find_passes : {X : Type 0} (p : X → Bool) (xs : List X) (x : X) → find p xs ≡ Some x → p x ≡ true
find_passes p [] x h = absurd cc
find_passes p (y ∷ ys) x h =
    let Goal : Bool → Type 0 = λ b. p y ≡ b → cond b (Some y) (find p ys) ≡ Some x → p x ≡ true in
    let cases : (b : Bool) → Goal b = elim [ true ↦ (λ e k. let s : y ≡ x = cc in subst (λ z. p z ≡ true) s e) | false ↦ (λ e k. find_passes p ys x k) ] in
    cases (p y) refl h

pub ticket_of : (t : ℕ) (rs : List LockRow) (r : LockRow) → row_at t rs ≡ Some r → r.ticket ≡ t
ticket_of t rs r h = let e : has_ticket t r ≡ true = find_passes (has_ticket t) rs r h in grind (arith, nat_tests)

pub all_weaker : {X : Type 0} (P Q : X → Type 0) (xs : List X) → ((x : X) → P x → Q x) → AllByRecursion P xs → AllByRecursion Q xs
all_weaker P Q [] f h = tt
all_weaker P Q (x ∷ xs) f h = (f x h.0, all_weaker P Q xs f h.1)

pub all_append : {X : Type 0} (P : X → Type 0) (xs : List X) (y : X) → AllByRecursion P xs → P y → AllByRecursion P (xs ++ y ∷ [])
all_append P [] y h p = (p, tt)
all_append P (x ∷ xs) y h p = (h.0, all_append P xs y h.1 p)

pub ordered_push : (rs : List LockRow) (n : ℕ) (r : LockRow) → r.ticket ≡ n → IsOrdered rs n → IsOrdered (rs ++ r ∷ []) (n + 1)
ordered_push [] n r e h = (omega arith, tt, tt)
ordered_push (q ∷ qs) n r e h = (omega (arith, h.0), all_append (λ x. q.ticket < x.ticket) qs r h.1 (omega (arith, h.0)), ordered_push qs n r e h.2)

-- marking a row changes no ticket
pub marked_ticket : (t : ℕ) (r : LockRow) → (marked t r).ticket ≡ r.ticket
marked_ticket t r = refl

all_marked : (t m : ℕ) (rs : List LockRow) → AllByRecursion (λ (x : LockRow). m < x.ticket) rs → AllByRecursion (λ (x : LockRow). m < x.ticket) (map (marked t) rs)
all_marked t m [] h = tt
all_marked t m (r ∷ rs) h = (omega (arith, marked_ticket t r, h.0), all_marked t m rs h.1)

pub ordered_marked : (t : ℕ) (rs : List LockRow) (n : ℕ) → IsOrdered rs n → IsOrdered (map (marked t) rs) n
ordered_marked t [] n h = tt
ordered_marked t (r ∷ rs) n h =
    let e : r.ticket ≡ (marked t r).ticket = sym (marked_ticket t r) in
    (omega (arith, e, h.0), subst (λ k. AllByRecursion (λ (x : LockRow). k < x.ticket) (map (marked t) rs)) e (all_marked t r.ticket rs h.1), ordered_marked t rs n h.2)

all_filter : {X : Type 0} (P : X → Type 0) (p : X → Bool) (xs : List X) → AllByRecursion P xs → AllByRecursion P (filter p xs)
all_filter P p [] h = tt
all_filter P p (x ∷ xs) h =
    let cases : (b : Bool) → AllByRecursion P (cond b (x ∷ filter p xs) (filter p xs)) = elim [ true ↦ (h.0, all_filter P p xs h.1) | false ↦ all_filter P p xs h.1 ] in
    cases (p x)

pub ordered_filter : (p : LockRow → Bool) (rs : List LockRow) (n : ℕ) → IsOrdered rs n → IsOrdered (filter p rs) n
ordered_filter p [] n h = tt
ordered_filter p (r ∷ rs) n h =
    let cases : (b : Bool) → IsOrdered (cond b (r ∷ filter p rs) (filter p rs)) n = elim [ true ↦ (h.0, all_filter (λ (x : LockRow). r.ticket < x.ticket) p rs h.1, ordered_filter p rs n h.2) | false ↦ ordered_filter p rs n h.2 ] in
    cases (p r)

-- a row that a search passes over fails its test
pub find_none : {X : Type 0} (p q : X → Bool) (xs : List X) (x : X) → find p xs ≡ None → find q xs ≡ Some x → p x ≡ false
find_none p q [] x h k = absurd cc
find_none p q (y ∷ ys) x h k =
    let Goal : Bool → Bool → Type 0 = λ a b. p y ≡ a → q y ≡ b → cond a (Some y) (find p ys) ≡ None → cond b (Some y) (find q ys) ≡ Some x → p x ≡ false in
    let cases : (a b : Bool) → Goal a b = elim [ true ↦ (λ b e f m n. absurd cc) | false ↦ elim [ true ↦ (λ e f m n. let s : y ≡ x = cc in subst (λ z. p z ≡ false) s e) | false ↦ (λ e f m n. find_none p q ys x m n) ] ] in
    cases (p y) (q y) refl refl h k

above : (m u : ℕ) (rs : List LockRow) (q : LockRow) → AllByRecursion (λ (x : LockRow). m < x.ticket) rs → row_at u rs ≡ Some q → m < u
above m u [] q a h = absurd cc
above m u (r ∷ rs) q a h =
    let cases : (b : Bool) → (r.ticket == u) ≡ b → cond b (Some r) (row_at u rs) ≡ Some q → m < u = elim [ true ↦ (λ e k. let s : r.ticket ≡ u = grind (arith, nat_tests) in omega (arith, s, a.0)) | false ↦ (λ e k. above m u rs q a.1 k) ] in
    cases (r.ticket == u) refl h

-- what any search finds in rows in order is found by its ticket
pub found_at : (p : LockRow → Bool) (rs : List LockRow) (n : ℕ) (b : LockRow) → IsOrdered rs n → find p rs ≡ Some b → row_at b.ticket rs ≡ Some b
found_at p [] n b o h = absurd cc
found_at p (r ∷ rs) n b o h =
    let same : (r.ticket == r.ticket) ≡ true = grind (arith, nat_tests) in
    let cases : (a : Bool) → p r ≡ a → cond a (Some r) (find p rs) ≡ Some b → row_at b.ticket (r ∷ rs) ≡ Some b = elim [
      | true ↦ (λ e k. let s : r ≡ b = cc in subst (λ z. row_at z.ticket (r ∷ rs) ≡ Some z) s (rw same refl))
      | false ↦ (λ e k.
          let i = found_at p rs n b o.2 k in
          let lt : r.ticket < b.ticket = above r.ticket b.ticket rs b o.1 i in
          let ne : (r.ticket == b.ticket) ≡ false = grind (arith, nat_tests) in
          rw ne i)
    ] in
    cases (p r) refl h

-- the first row that passes has the least ticket of those that do
pub found_least : (p : LockRow → Bool) (rs : List LockRow) (n : ℕ) (b : LockRow) (u : ℕ) (q : LockRow) → IsOrdered rs n → find p rs ≡ Some b → row_at u rs ≡ Some q → p q ≡ true → u < b.ticket → ⊥
found_least p [] n b u q o h k t lt = cc
found_least p (r ∷ rs) n b u q o h k t lt =
    let cases : (x y : Bool) → p r ≡ x → (r.ticket == u) ≡ y → cond x (Some r) (find p rs) ≡ Some b → cond y (Some r) (row_at u rs) ≡ Some q → ⊥ = elim [
      | true ↦ elim [
        | true ↦ (λ e f m n'. let s : r ≡ b = cc in let i : r.ticket ≡ u = grind (arith, nat_tests) in omega (arith, i, ap (λ (z : LockRow). z.ticket) s))
        | false ↦ (λ e f m n'. let s : r ≡ b = cc in let i = above r.ticket u rs q o.1 n' in omega (arith, i, ap (λ (z : LockRow). z.ticket) s))
      ]
      | false ↦ elim [
        | true ↦ (λ e f m n'. let s : r ≡ q = cc in let no : p q ≡ false = subst (λ z. p z ≡ false) s e in cc)
        | false ↦ (λ e f m n'. found_least p rs n b u q o.2 m n' t lt)
      ]
    ] in
    cases (p r) (r.ticket == u) refl refl h k

-- what `can_grant` answers where a row keeps the ticket back
pub least_of : (l : Lock) (t : ℕ) (own b : LockRow) → IsOrdered l.rows l.next → row_at t l.rows ≡ Some own → find (λ q. keeps_back q own) l.rows ≡ Some b → IsLeastBlocker l t b.ticket
least_of l t own b o at found =
    let p : LockRow → Bool = λ q. keeps_back q own in
    record {
      blocks = record { blocker = b; own = own; blocker_at = found_at p l.rows l.next b o found; own_at = at; back = find_passes p l.rows b found };
      least = λ u k.
          let own_is : k.own ≡ own = let m = k.own_at in cc in
          let back : keeps_back k.blocker own ≡ true = subst (λ z. keeps_back k.blocker z ≡ true) own_is k.back in
          let above : u < b.ticket → ⊥ = found_least p l.rows l.next b u k.blocker o found k.blocker_at back in
          grind (arith, above);
    }

-- what it answers where none does
pub free_where : (l : Lock) (t : ℕ) (own : LockRow) → row_at t l.rows ≡ Some own → find (λ q. keeps_back q own) l.rows ≡ None → IsFree l t
free_where l t own at none u k =
    let own_is : k.own ≡ own = let m = k.own_at in cc in
    let back : keeps_back k.blocker own ≡ true = subst (λ z. keeps_back k.blocker z ≡ true) own_is k.back in
    let passes : keeps_back k.blocker own ≡ false = find_none (λ q. keeps_back q own) (has_ticket u) l.rows k.blocker none k.blocker_at in
    cc

-- a row doesn't keep a free ticket back
pub not_back : (l : Lock) (t u : ℕ) (own q : LockRow) → IsFree l t → row_at t l.rows ≡ Some own → row_at u l.rows ≡ Some q → keeps_back q own ≡ false
not_back l t u own q free at hu =
    let cases : (b : Bool) → keeps_back q own ≡ b → b ≡ false = elim [ true ↦ (λ e. absurd (free u (record { blocker = q; own = own; blocker_at = hu; own_at = at; back = e }))) | false ↦ (λ e. refl) ] in
    cases (keeps_back q own) refl

some_of : (o : Option LockRow) → IsSome o → (r : LockRow) × (o ≡ Some r)
some_of (Some r) h = (r, refl)
some_of None h = absurd cc

-- the first row has the least ticket
pub least_first : (rs : List LockRow) (n : ℕ) (r : LockRow) → IsOrdered rs n → slice_get rs 0 ≡ Some r → IsLeastTicket rs r.ticket
least_first [] n r o h = absurd cc
least_first (q ∷ qs) n r o h =
    let same : (q.ticket == q.ticket) ≡ true = grind (arith, nat_tests) in
    let is : q ≡ r = cc in
    let first : IsLeastTicket (q ∷ qs) q.ticket = record {
      here = rw same refl;
      least = λ u k.
          let at = some_of (row_at u (q ∷ qs)) k in
          let cases : (b : Bool) → (q.ticket == u) ≡ b → cond b (Some q) (row_at u qs) ≡ Some at.0 → q.ticket ≤ u = elim [
            | true ↦ (λ e m. let i : q.ticket ≡ u = grind (arith, nat_tests) in omega arith)
            | false ↦ (λ e m. let lt : q.ticket < u = above q.ticket u qs at.0 o.1 m in omega arith)
          ] in
          cases (q.ticket == u) refl at.1;
    } in
    subst (λ (z : LockRow). IsLeastTicket (q ∷ qs) z.ticket) is first
