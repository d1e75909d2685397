-- what a lock tells of the events that led to it
use Rattle.std.proofs.Common.{ℕ, zero, suc, ◌≡◌, ◌≢◌, ◌+◌, ◌<◌, ◌==◌, ◌⊎◌, inl, inr, Bool, true, false, not, ◌||◌, cond, List, [], ◌∷◌, ◌++◌, filter, Some, None, refl, ap, sym, ◌∙◌, subst, arith}
use Rattle.std.specs.Prelude.{slice_index_or}
use Rattle.std.specs.List.{Contains, count_by}
use Rattle.std.proofs.lemmas.Bool.Decides.{nat_tests}
use Rattle.std.proofs.lemmas.List.Elements.{Contains-append_left, Contains-append_right, Contains-append_cases}
use Rattle.std.proofs.lemmas.List.Sums.{sum_by-append}
use Rattle.st_wants.specs.declared.want.Want.{Want}
use Rattle.st_wants.specs.declared.row.LockRow.{LockRow}
use Rattle.st_wants.specs.Lock.{Lock, row_at, has_ticket, marked, new_row, start, arrived, granted, released}
use Rattle.st_wants.specs.Rules.{Move, Arrive, Grant, Release, lock_after, May}
use Rattle.st_wants.specs.Places.{is_arrival, NotGranted, NotReleased}
use Rattle.st_grants.specs.Order.{IsOrdered}
use Rattle.st_grants.proofs.Lookups.{ticket_of}
use Rattle.st_grants.proofs.Sound.{IsSound, sound_start, sound_step, row_push, row_keep, row_marked, row_marks, row_left, row_gone, row_stays, some_and, or_true}

abbrev pub ticket_in : Move → ℕ
ticket_in (Arrive s t w) = t
ticket_in (Grant s t) = t
ticket_in (Release s t) = t

-- the events that a row tells of
pub record RowTold (past : List Move) (t : ℕ) (r : LockRow) : Type 0 where
  pub arrived : Contains past (Arrive r.seat t r.want)
  pub granted : r.live ≡ true → Contains past (Grant r.seat t)
  pub waits : r.live ≡ false → NotGranted past t
  pub kept : NotReleased past t

pub record HasRow (l : Lock) (s t : ℕ) (w : Want) : Type 0 where
  pub row : LockRow
  pub at : row_at t l.rows ≡ Some row
  pub seat_is : row.seat ≡ s
  pub want_is : row.want ≡ w

-- the lock is what these events made it
pub record Told (past : List Move) (l : Lock) : Type 0 where
  pub sound : IsSound l
  pub count : l.next ≡ count_by is_arrival past
  pub rows : (t : ℕ) (r : LockRow) → row_at t l.rows ≡ Some r → RowTold past t r
  pub back : (s t : ℕ) (w : Want) → Contains past (Arrive s t w) → NotReleased past t → HasRow l s t w
  pub known : (m : Move) → Contains past m → ticket_in m < l.next
  pub came : (s t : ℕ) → Contains past (Grant s t) → (w : Want) × Contains past (Arrive s t w)
  pub went : (s t : ℕ) → Contains past (Release s t) → Contains past (Grant s t)

one_at : (k : ℕ) (m x : Move) → k < 1 → slice_index_or (m ∷ []) k x ≡ x → m ≡ x
one_at zero m x lt e = e
one_at (suc k) m x lt e = absurd (omega arith)

-- an event of a list with one more is an old one, or the one more
pub in_push : (past : List Move) (m x : Move) → Contains (past ++ m ∷ []) x → Contains past x ⊎ (m ≡ x)
in_push past m x h = elim (Contains-append_cases past (m ∷ []) x h) [
  | inl a ↦ inl a
  | inr b ↦ inr (one_at b.0 m x b.1 b.2)
]

pub old : (past : List Move) (m x : Move) → Contains past x → Contains (past ++ m ∷ []) x
old past m x h = Contains-append_left past (m ∷ []) x h

pub newest : (past : List Move) (m : Move) → Contains (past ++ m ∷ []) m
newest past m = Contains-append_right past (m ∷ []) m (0, omega arith, refl)

pub not_granted_more : (past : List Move) (m : Move) (t : ℕ) → NotGranted past t → ((s : ℕ) → m ≡ Grant s t → ⊥) → NotGranted (past ++ m ∷ []) t
not_granted_more past m t h other s c = elim (in_push past m (Grant s t) c) [ inl a ↦ h s a | inr e ↦ other s e ]

pub not_released_more : (past : List Move) (m : Move) (t : ℕ) → NotReleased past t → ((s : ℕ) → m ≡ Release s t → ⊥) → NotReleased (past ++ m ∷ []) t
not_released_more past m t h other s c = elim (in_push past m (Release s t) c) [ inl a ↦ h s a | inr e ↦ other s e ]

pub not_released_less : (past : List Move) (m : Move) (t : ℕ) → NotReleased (past ++ m ∷ []) t → NotReleased past t
not_released_less past m t h s c = h s (old past m (Release s t) c)

count_arrival : (past : List Move) (s t : ℕ) (w : Want) → count_by is_arrival (past ++ Arrive s t w ∷ []) ≡ count_by is_arrival past + 1
count_arrival past s t w = sum_by-append (λ m. cond (is_arrival m) 1 0) past (Arrive s t w ∷ [])

count_other : (past : List Move) (m : Move) → is_arrival m ≡ false → count_by is_arrival (past ++ m ∷ []) ≡ count_by is_arrival past
count_other past m e =
    let n : count_by is_arrival (past ++ m ∷ []) ≡ count_by is_arrival past + count_by is_arrival (m ∷ []) = sum_by-append (λ x. cond (is_arrival x) 1 0) past (m ∷ []) in
    let z : count_by is_arrival (m ∷ []) ≡ 0 = ap (λ b. 0 + cond b 1 0) e in
    omega arith

-- an event of another ticket, or no grant or release of this one, leaves what the row tells
row_more : (past : List Move) (m : Move) (t : ℕ) (r : LockRow) → ((s : ℕ) → m ≡ Grant s t → ⊥) → ((s : ℕ) → m ≡ Release s t → ⊥) → RowTold past t r → RowTold (past ++ m ∷ []) t r
row_more past m t r no_grant no_release h = record {
  arrived = old past m (Arrive r.seat t r.want) h.arrived;
  granted = λ e. old past m (Grant r.seat t) (h.granted e);
  waits = λ e. not_granted_more past m t (h.waits e) no_grant;
  kept = not_released_more past m t h.kept no_release;
}

or_false : (b : Bool) → (b || false) ≡ b
or_false true = refl
or_false false = refl

row_new : (n s : ℕ) (w : Want) (rs : List LockRow) → IsOrdered rs n → row_at n (rs ++ new_row n s w ∷ []) ≡ Some (new_row n s w)
row_new n s w [] o = let same : (n == n) ≡ true = grind (arith, nat_tests) in rw same refl
row_new n s w (r ∷ rs) o = let other : (r.ticket == n) ≡ false = let lt = o.0 in grind (arith, nat_tests) in rw other (row_new n s w rs o.2)

fresh_row : (past : List Move) (l : Lock) (s : ℕ) (w : Want) → Told past l → RowTold (past ++ Arrive s l.next w ∷ []) l.next (new_row l.next s w)
fresh_row past l s w h = record {
  arrived = newest past (Arrive s l.next w);
  granted = λ e. absurd cc;
  waits = λ e. not_granted_more past (Arrive s l.next w) l.next (λ q c. let lt : l.next < l.next = h.known (Grant q l.next) c in omega arith) (λ q k. cc);
  kept = not_released_more past (Arrive s l.next w) l.next (λ q c. let lt : l.next < l.next = h.known (Release q l.next) c in omega arith) (λ q k. cc);
}

told_arrive : (past : List Move) (l : Lock) (s : ℕ) (w : Want) → Told past l → Told (past ++ Arrive s l.next w ∷ []) (arrived s w l)
told_arrive past l s w h =
    let m : Move = Arrive s l.next w in
    record {
      sound = sound_step l m refl h.sound;
      count = let c = h.count in let d = count_arrival past s l.next w in omega arith;
      rows = λ u r at. elim (row_push u l.rows (new_row l.next s w) r at) [
        | inl i ↦ row_more past m u r (λ q e. cc) (λ q e. cc) (h.rows u r i)
        | inr e ↦ (
            let u_is : r.ticket ≡ u = ticket_of u (l.rows ++ new_row l.next s w ∷ []) r at in
            let is : l.next ≡ u = ap (λ (z : LockRow). z.ticket) e ∙ u_is in
            subst (λ z. RowTold (past ++ m ∷ []) u z) e (subst (λ z. RowTold (past ++ m ∷ []) z (new_row l.next s w)) is (fresh_row past l s w h)))
      ];
      back = λ q u v c kept. elim (in_push past m (Arrive q u v) c) [
        | inl a ↦ (let old_row : HasRow l q u v = h.back q u v a (not_released_less past m u kept) in record { row = old_row.row; at = row_keep u l.rows (new_row l.next s w) old_row.row old_row.at; seat_is = old_row.seat_is; want_is = old_row.want_is })
        | inr e ↦ (
            let u_is : l.next ≡ u = cc in
            record { row = new_row l.next s w; at = subst (λ z. row_at z (l.rows ++ new_row l.next s w ∷ []) ≡ Some (new_row l.next s w)) u_is (row_new l.next s w l.rows h.sound.ordered); seat_is = cc; want_is = cc })
      ];
      known = λ x c. elim (in_push past m x c) [
        | inl a ↦ (let lt = h.known x a in omega arith)
        | inr e ↦ (let is : l.next ≡ ticket_in x = ap ticket_in e in omega arith)
      ];
      came = λ q u c. elim (in_push past m (Grant q u) c) [
        | inl a ↦ (let x = h.came q u a in (x.0, old past m (Arrive q u x.0) x.1))
        | inr e ↦ absurd cc
      ];
      went = λ q u c. elim (in_push past m (Release q u) c) [
        | inl a ↦ old past m (Grant q u) (h.went q u a)
        | inr e ↦ absurd cc
      ];
    }

row_below : (t n : ℕ) (rs : List LockRow) (r : LockRow) → IsOrdered rs n → row_at t rs ≡ Some r → t < n
row_below t n [] r o h = absurd cc
row_below t n (q ∷ qs) r o h =
    let cases : (b : Bool) → (q.ticket == t) ≡ b → cond b (Some q) (row_at t qs) ≡ Some r → t < n = elim [ true ↦ (λ e k. let i : q.ticket ≡ t = grind (arith, nat_tests) in omega (arith, i, o.0)) | false ↦ (λ e k. row_below t n qs r o.2 k) ] in
    cases (q.ticket == t) refl h

-- what a row tells after a grant of its own ticket
marked_here : (past : List Move) (s t : ℕ) (q : LockRow) → q.ticket ≡ t → q.seat ≡ s → RowTold past t q → RowTold (past ++ Grant s t ∷ []) t (marked t q)
marked_here past s t q is seat h =
    let live : (q.live || (q.ticket == t)) ≡ true = let b : (q.ticket == t) ≡ true = grind (arith, nat_tests) in rw b (or_true q.live) in
    record {
      arrived = old past (Grant s t) (Arrive q.seat t q.want) h.arrived;
      granted = λ e. subst (λ z. Contains (past ++ Grant s t ∷ []) (Grant z t)) (sym seat) (newest past (Grant s t));
      waits = λ e. absurd (let x : true ≡ false = sym live ∙ e in cc);
      kept = not_released_more past (Grant s t) t h.kept (λ z e. cc);
    }

-- and of another
marked_there : (past : List Move) (s t u : ℕ) (q : LockRow) → (q.ticket == t) ≡ false → u ≢ t → RowTold past u q → RowTold (past ++ Grant s t ∷ []) u (marked t q)
marked_there past s t u q other ne h =
    let same : (q.live || (q.ticket == t)) ≡ q.live = rw other (or_false q.live) in
    let more : RowTold (past ++ Grant s t ∷ []) u q = row_more past (Grant s t) u q (λ z e. let is : t ≡ u = cc in ne (sym is)) (λ z e. cc) h in
    record {
      arrived = more.arrived;
      granted = λ e. more.granted (sym same ∙ e);
      waits = λ e. more.waits (sym same ∙ e);
      kept = more.kept;
    }

told_grant : (past : List Move) (l : Lock) (s t : ℕ) → May l (Grant s t) → Told past l → Told (past ++ Grant s t ∷ []) (granted t l)
told_grant past l s t may h =
    let m : Move = Grant s t in
    let own = some_and (λ (r : LockRow). (r.live ≡ false) × (r.seat ≡ s)) (row_at t l.rows) may.0 in
    record {
      sound = sound_step l m may h.sound;
      count = let c = h.count in let d = count_other past m refl in omega arith;
      rows = λ u r at.
          let i = row_marked t u l.rows r at in
          let u_is : i.0.ticket ≡ u = ticket_of u l.rows i.0 i.1 in
          let cases : (b : Bool) → (i.0.ticket == t) ≡ b → RowTold (past ++ m ∷ []) u (marked t i.0) = elim [
            | true ↦ (λ e.
                let t_is : i.0.ticket ≡ t = grind (arith, nat_tests) in
                let tu : t ≡ u = sym t_is ∙ u_is in
                let at_t : row_at t l.rows ≡ Some i.0 = subst (λ z. row_at z l.rows ≡ Some i.0) (sym tu) i.1 in
                let same : own.0 ≡ i.0 = let k = own.1 in cc in
                let seat : i.0.seat ≡ s = ap (λ (z : LockRow). z.seat) (sym same) ∙ own.2.1 in
                subst (λ z. RowTold (past ++ m ∷ []) z (marked t i.0)) tu (marked_here past s t i.0 t_is seat (h.rows t i.0 at_t)))
            | false ↦ (λ e.
                let ne : u ≢ t = λ k. let is : i.0.ticket ≡ t = u_is ∙ k in let yes : (i.0.ticket == t) ≡ true = grind (arith, nat_tests) in let x : true ≡ false = sym yes ∙ e in cc in
                marked_there past s t u i.0 e ne (h.rows u i.0 i.1))
          ] in
          subst (λ z. RowTold (past ++ m ∷ []) u z) i.2 (cases (i.0.ticket == t) refl);
      back = λ q u v c kept. elim (in_push past m (Arrive q u v) c) [
        | inl a ↦ (let old_row : HasRow l q u v = h.back q u v a (not_released_less past m u kept) in record { row = marked t old_row.row; at = row_marks t u l.rows old_row.row old_row.at; seat_is = old_row.seat_is; want_is = old_row.want_is })
        | inr e ↦ absurd cc
      ];
      known = λ x c. elim (in_push past m x c) [
        | inl a ↦ h.known x a
        | inr e ↦ (let is : t ≡ ticket_in x = ap ticket_in e in subst (λ z. z < l.next) is (row_below t l.next l.rows own.0 h.sound.ordered own.1))
      ];
      came = λ q u c. elim (in_push past m (Grant q u) c) [
        | inl a ↦ (let x = h.came q u a in (x.0, old past m (Arrive q u x.0) x.1))
        | inr e ↦ (
            let seat : own.0.seat ≡ q = let k : s ≡ q = cc in own.2.1 ∙ k in
            let is : t ≡ u = cc in
            let told : Contains past (Arrive own.0.seat t own.0.want) = (h.rows t own.0 own.1).arrived in
            (own.0.want, old past m (Arrive q u own.0.want) (subst (λ z. Contains past (Arrive q z own.0.want)) is (subst (λ z. Contains past (Arrive z t own.0.want)) seat told))))
      ];
      went = λ q u c. elim (in_push past m (Release q u) c) [
        | inl a ↦ old past m (Grant q u) (h.went q u a)
        | inr e ↦ absurd cc
      ];
    }

told_release : (past : List Move) (l : Lock) (s t : ℕ) → May l (Release s t) → Told past l → Told (past ++ Release s t ∷ []) (released t l)
told_release past l s t may h =
    let m : Move = Release s t in
    let own = some_and (λ (r : LockRow). (r.live ≡ true) × (r.seat ≡ s)) (row_at t l.rows) may in
    let left : List LockRow = filter (λ x. not (has_ticket t x)) l.rows in
    record {
      sound = sound_step l m may h.sound;
      count = let c = h.count in let d = count_other past m refl in omega arith;
      rows = λ u r at.
          let ne : t ≡ u → ⊥ = λ k. let gone : row_at u left ≡ None = subst (λ z. row_at z left ≡ None) k (row_gone t l.rows) in cc in
          row_more past m u r (λ z e. cc) (λ z e. let is : t ≡ u = cc in ne is) (h.rows u r (row_left t u l.rows r at));
      back = λ q u v c kept. elim (in_push past m (Arrive q u v) c) [
        | inl a ↦ (
            let ne : t ≢ u = λ k. kept s (subst (λ z. Contains (past ++ m ∷ []) (Release s z)) k (newest past m)) in
            let old_row : HasRow l q u v = h.back q u v a (not_released_less past m u kept) in
            record { row = old_row.row; at = row_stays t u l.rows old_row.row ne old_row.at; seat_is = old_row.seat_is; want_is = old_row.want_is })
        | inr e ↦ absurd cc
      ];
      known = λ x c. elim (in_push past m x c) [
        | inl a ↦ h.known x a
        | inr e ↦ (let is : t ≡ ticket_in x = ap ticket_in e in subst (λ z. z < l.next) is (row_below t l.next l.rows own.0 h.sound.ordered own.1))
      ];
      came = λ q u c. elim (in_push past m (Grant q u) c) [
        | inl a ↦ (let x = h.came q u a in (x.0, old past m (Arrive q u x.0) x.1))
        | inr e ↦ absurd cc
      ];
      went = λ q u c. elim (in_push past m (Release q u) c) [
        | inl a ↦ old past m (Grant q u) (h.went q u a)
        | inr e ↦ (
            let seat : own.0.seat ≡ q = let k : s ≡ q = cc in own.2.1 ∙ k in
            let is : t ≡ u = cc in
            let told : Contains past (Grant own.0.seat t) = (h.rows t own.0 own.1).granted own.2.0 in
            old past m (Grant q u) (subst (λ z. Contains past (Grant q z)) is (subst (λ z. Contains past (Grant z t)) seat told)))
      ];
    }

pub told_start : Told [] start
told_start = record {
  sound = sound_start;
  count = refl;
  rows = λ t r at. absurd cc;
  back = λ s t w c kept. absurd (let lt = c.1 in omega arith);
  known = λ m c. absurd (let lt = c.1 in omega arith);
  came = λ s t c. absurd (let lt = c.1 in omega arith);
  went = λ s t c. absurd (let lt = c.1 in omega arith);
}

-- each move that the rule allows keeps it
pub told_step : (past : List Move) (l : Lock) (m : Move) → May l m → Told past l → Told (past ++ m ∷ []) (lock_after l m)
told_step past l (Arrive s t w) may h = subst (λ z. Told (past ++ Arrive s z w ∷ []) (arrived s w l)) (sym may) (told_arrive past l s w h)
told_step past l (Grant s t) may h = told_grant past l s t may h
told_step past l (Release s t) may h = told_release past l s t may h
