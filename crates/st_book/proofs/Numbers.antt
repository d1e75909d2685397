-- The numbers noted at grants, over a log that grows.
use Rattle.std.proofs.Common.{ℕ, zero, suc, ◌≡◌, ◌≢◌, ◌+◌, ◌==◌, ◌⊎◌, inl, inr, Bool, true, false, ◌||◌, List, [], ◌∷◌, ◌++◌, length, refl, ap, sym, ◌∙◌, subst, arith}
use Rattle.std.specs.Prelude.{Some as Just, None}
use Rattle.std.specs.List.{Contains}
use Rattle.std.proofs.lemmas.Bool.Decides.{nat_tests}
use Rattle.st_wants.specs.declared.row.LockRow.{LockRow}
use Rattle.st_wants.specs.Lock.{Lock, row_at, new_row, arrived, granted, released, IsLive}
use Rattle.st_wants.specs.Rules as rule
use Rattle.st_grants.proofs.Lookups.{ticket_of}
use Rattle.st_grants.proofs.Sound.{row_push, row_marked, row_left, row_gone, some_and}
use Rattle.st_history.specs.declared.log.Event.{Event}
use Rattle.st_history.specs.declared.log.Event.TheVariants.{Arrive, Grant, Release}
use Rattle.st_history.specs.History.{move_of, moves_of}
use Rattle.st_book.specs.declared.lent.Lent.{Lent}
use Rattle.st_book.specs.declared.noted.Noted.{Noted}
use Rattle.st_book.specs.Noted.{number_in, numbers_past, noted_log, grants_in, grant_count, grant_with, IsNoted, LentAsNoted}
use Rattle.st_book.specs.View.{is_lent_to, lent_at}
use Rattle.st_book.proofs.Lending.{left_of, lent_push_other, lent_push_own, lent_kept}

-- the numbers of the grants after the log
abbrev left_after : List Event → List ℕ → List ℕ
left_after [] ns = ns
left_after (e ∷ es) ns = left_after es (numbers_past e ns)

pub noted-snoc : (log : List Event) (ns : List ℕ) (e : Event) → noted_log (log ++ e ∷ []) ns ≡ noted_log log ns ++ (record { event = e; faults = number_in e (left_after log ns) }) ∷ []
noted-snoc [] ns e = refl
noted-snoc (x ∷ xs) ns e =
    let here : Noted = record { event = x; faults = number_in x ns } in
    ap (λ zs. here ∷ zs) (noted-snoc xs (numbers_past x ns) e)

pub count-snoc : (log : List Event) (e : Event) → grant_count (log ++ e ∷ []) ≡ grant_count log + grants_in e
count-snoc [] e = omega arith
count-snoc (x ∷ xs) e = let rest = count-snoc xs e in omega arith

-- a number more is of no grant in the log
noted-more : (log : List Event) (ns : List ℕ) (n : ℕ) → length ns ≡ grant_count log → (noted_log log (ns ++ n ∷ []) ≡ noted_log log ns) × (left_after log (ns ++ n ∷ []) ≡ n ∷ [])
noted-more [] [] n h = (refl, refl)
noted-more [] (m ∷ ms) n h = absurd (omega arith)
noted-more (Arrive s t w ∷ es) ns n h =
    let here : Noted = record { event = Arrive s t w; faults = 0 } in
    let r = noted-more es ns n (omega arith) in
    (ap (λ zs. here ∷ zs) r.0, r.1)
noted-more (Grant s t ∷ es) [] n h = absurd (omega arith)
noted-more (Grant s t ∷ es) (m ∷ ms) n h =
    let here : Noted = record { event = Grant s t; faults = m } in
    let r = noted-more es ms n (omega arith) in
    (ap (λ zs. here ∷ zs) r.0, r.1)
noted-more (Release s t x ∷ es) ns n h =
    let here : Noted = record { event = Release s t x; faults = 0 } in
    let r = noted-more es ns n (omega arith) in
    (ap (λ zs. here ∷ zs) r.0, r.1)

-- the log with one grant more, and its number
pub noted-granted : (log : List Event) (ns : List ℕ) (s t n : ℕ) → length ns ≡ grant_count log → noted_log (log ++ Grant s t ∷ []) (ns ++ n ∷ []) ≡ noted_log log ns ++ grant_with s t n ∷ []
noted-granted log ns s t n h =
    let r = noted-more log ns n h in
    noted-snoc log (ns ++ n ∷ []) (Grant s t) ∙ rw (r.0, r.1) refl

pub noted-push : (xs : List Noted) (y x : Noted) → IsNoted x (xs ++ y ∷ []) → IsNoted x xs ⊎ (y ≡ x)
noted-push [] y x h = elim h [ inl e ↦ inr e | inr n ↦ absurd n ]
noted-push (z ∷ zs) y x h = elim h [ inl e ↦ inl (inl e) | inr r ↦ (elim (noted-push zs y x r) [ inl a ↦ inl (inr a) | inr e ↦ inr e ]) ]

-- what is noted is in the log
pub noted-in_log : (log : List Event) (ns : List ℕ) (s t n : ℕ) → IsNoted (grant_with s t n) (noted_log log ns) → Contains (moves_of log) (rule.Grant s t)
noted-in_log [] ns s t n h = absurd h
noted-in_log (e ∷ es) ns s t n h = elim h [
  | inl k ↦ (zero, omega arith, ap (λ (x : Noted). move_of x.event) k)
  | inr r ↦ (let c = noted-in_log es (numbers_past e ns) s t n r in (suc c.0, let lt = c.1 in omega arith, c.2))
]

is_live_at : (l : Lock) (t : ℕ) → IsLive l t → (r : LockRow) × (row_at t l.rows ≡ Just r) × (r.live ≡ true)
is_live_at l t h = some_and (λ (r : LockRow). r.live ≡ true) (row_at t l.rows) h

live_from : (l : Lock) (t : ℕ) (r : LockRow) → row_at t l.rows ≡ Just r → r.live ≡ true → IsLive l t
live_from l t r at live = rw at live

-- an arrival leaves it so
pub lent-arrived : (l : Lock) (seat : ℕ) (w : _) (log : List Noted) (x : Noted) (lent : List Lent) → ((s t n : ℕ) → x ≡ grant_with s t n → ⊥) → LentAsNoted l log lent → LentAsNoted (arrived seat w l) (log ++ x ∷ []) lent
lent-arrived l seat w log x lent other h s t n is live = elim (noted-push log x (grant_with s t n) is) [
  | inr e ↦ absurd (other s t n e)
  | inl i ↦ (
      let own = is_live_at (arrived seat w l) t live in
      elim (row_push t l.rows (new_row l.next seat w) own.0 own.1) [
        | inl at ↦ h s t n i (live_from l t own.0 at own.2)
        | inr e ↦ absurd (let no : false ≡ true = ap (λ (z : LockRow). z.live) e ∙ own.2 in cc)
      ])
]

-- a release too
pub lent-released : (l : Lock) (u : ℕ) (log : List Noted) (x : Noted) (lent : List Lent) → ((s t n : ℕ) → x ≡ grant_with s t n → ⊥) → LentAsNoted l log lent → LentAsNoted (released u l) (log ++ x ∷ []) (left_of u lent)
lent-released l u log x lent other h s t n is live = elim (noted-push log x (grant_with s t n) is) [
  | inr e ↦ absurd (other s t n e)
  | inl i ↦ (
      let own = is_live_at (released u l) t live in
      let ne : u ≢ t = λ e. let gone : row_at t (released u l).rows ≡ None = subst (λ z. row_at z (released u l).rows ≡ None) e (row_gone u l.rows) in cc in
      lent_kept u t lent ne ∙ h s t n i (live_from l t own.0 (row_left u t l.rows own.0 own.1) own.2))
]

or_left : (a b : Bool) → b ≡ false → (a || b) ≡ true → a ≡ true
or_left true b f e = refl
or_left false b f e = absurd cc

-- and a grant, with its number
pub lent-granted : (l : Lock) (u seat : ℕ) (log : List Noted) (x : Lent) (lent : List Lent) → ((s n : ℕ) → IsNoted (grant_with s u n) log → ⊥) → lent_at u lent ≡ 0 → x.ticket ≡ u
    → LentAsNoted l log lent → LentAsNoted (granted u l) (log ++ grant_with seat u x.faults ∷ []) (lent ++ x ∷ [])
lent-granted l u seat log x lent fresh none ticket h s t n is live = elim (noted-push log (grant_with seat u x.faults) (grant_with s t n) is) [
  | inr e ↦ (
      let same : u ≡ t = ap ticket_of_event e in
      let number : x.faults ≡ n = ap (λ (z : Noted). z.faults) e in
      let own : is_lent_to t x ≡ true = grind (arith, nat_tests) in
      let sum = lent_push_own t lent x own in
      let zero_there : lent_at t lent ≡ 0 = subst (λ z. lent_at z lent ≡ 0) same none in
      omega arith)
  | inl i ↦ (
      let ne : u ≢ t = λ e. fresh s n (subst (λ z. IsNoted (grant_with s z n) log) (sym e) i) in
      let own = is_live_at (granted u l) t live in
      let was = row_marked u t l.rows own.0 own.1 in
      let is_t : was.0.ticket ≡ t = ticket_of t l.rows was.0 was.1 in
      let not_u : (was.0.ticket == u) ≡ false = not_same was.0.ticket u (λ e. ne (sym e ∙ is_t)) in
      let alive : was.0.live ≡ true = or_left was.0.live (was.0.ticket == u) not_u (ap (λ (z : LockRow). z.live) was.2 ∙ own.2) in
      let other : is_lent_to t x ≡ false = not_same x.ticket t (λ e. ne (sym ticket ∙ e)) in
      lent_push_other t lent x other ∙ h s t n i (live_from l t was.0 was.1 alive))
]
  where
    ticket_of_event : Noted → ℕ
    ticket_of_event x = by_event x.event
      where
        by_event : Event → ℕ
        by_event (Arrive a b c) = b
        by_event (Grant a b) = b
        by_event (Release a b c) = b

    not_same : (a b : ℕ) → (a ≡ b → ⊥) → (a == b) ≡ false
    not_same a b ne =
        let cases : (c : Bool) → (a == b) ≡ c → c ≡ false = elim [ true ↦ (λ e. absurd (let same : a ≡ b = grind (arith, nat_tests) in ne same)) | false ↦ (λ e. refl) ] in
        cases (a == b) refl
