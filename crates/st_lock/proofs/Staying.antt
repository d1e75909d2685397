-- What a seat knows of a ticket that it holds is so after its other calls.
use Rattle.std.proofs.Common.{ℕ, ◌≡◌, ◌==◌, ◌<◌, inl, inr, Bool, true, false, cond, List, [], ◌∷◌, ◌++◌, Some, length, refl, ap, sym, ◌∙◌, subst, arith, length-append, append_assoc}
use Rattle.std.proofs.lemmas.Bool.Decides.{nat_tests}
use Rattle.std.proofs.lemmas.List.{map-append}
use mathlib.Core.List.{IsPrefix}
use Rattle.st_wants.specs.declared.row.LockRow.{LockRow}
use Rattle.st_wants.specs.Lock.{Lock, row_at, new_row, start}
use Rattle.st_wants.specs.Rules.{lock_after, lock_run}
use Rattle.st_grants.specs.Order.{IsOrdered}
use Rattle.st_grants.proofs.Lookups.{ticket_of}
use Rattle.st_grants.proofs.Sound.{IsSound, sound_step, row_left, row_gone, row_marked, row_push}
use Rattle.st_model.specs.declared.state.EngineState.{EngineState}
use Rattle.st_model.specs.Parts.{Agree}
use Rattle.st_history.specs.declared.log.Event.{Event}
use Rattle.st_history.specs.declared.log.Event.TheVariants.{Arrive, Grant, Release}
use Rattle.st_history.specs.Agreement.{releases, NotReleased}
use Rattle.st_history.specs.History.{History, HistoryFrom, move_of, moves_of, state_past, replay}
use Rattle.st_history.specs.Own.{row_told, own_of}
use Rattle.st_history.proofs.Held.{held-past, logs-agree}
use Rattle.st_history.proofs.Histories.{lock_run-append}
use Rattle.st_history.proofs.Own.{own-told}
use Rattle.st_history.proofs.Snoc.{history-split, history-sound}
use Rattle.st_book.specs.declared.noted.Noted.{Noted}
use Rattle.st_book.specs.Noted.{grant_with, IsNoted}
use Rattle.st_lock.specs.Held.{Rose}
use Rattle.st_lock.specs.Opening.{events_of}
use Rattle.st_lock.specs.Seats.{LockSeat, IsHeard, IsLater, own_row, state_at}
use Rattle.st_lock.specs.Staying.{HasGoneOn, PartStays}
use Rattle.st_lock.proofs.Back.{part-over, back-over}
use Rattle.st_lock.proofs.Turns.{own-events}

-- no row has the ticket
abbrev HasNone : ℕ → List LockRow → Type 0
HasNone t rows = (r : LockRow) → row_at t rows ≡ Some r → ⊥

row_below : (t n : ℕ) (rows : List LockRow) (r : LockRow) → IsOrdered rows n → row_at t rows ≡ Some r → t < n
row_below t n [] r o h = absurd cc
row_below t n (q ∷ qs) r o h =
    let cases : (b : Bool) → (q.ticket == t) ≡ b → cond b (Some q) (row_at t qs) ≡ Some r → t < n = elim [
      | true ↦ (λ e k. let same : q.ticket ≡ t = grind (arith, nat_tests) in omega (arith, same, o.0))
      | false ↦ (λ e k. row_below t n qs r o.2 k)
    ] in
    cases (q.ticket == t) refl h

-- A ticket that came and has no row never has one again.
gone_past : (l : Lock) (e : Event) (t : ℕ) → t < l.next → HasNone t l.rows → HasNone t (lock_after l (move_of e)).rows
gone_past l (Arrive s u w) t low none r h = elim (row_push t l.rows (new_row l.next s w) r h) [
  | inl k ↦ none r k
  | inr e ↦ let at = ticket_of t (l.rows ++ new_row l.next s w ∷ []) r h in let is : l.next ≡ r.ticket = ap (λ (x : LockRow). x.ticket) e in omega arith
]
gone_past l (Grant s u) t low none r h = let before = row_marked u t l.rows r h in none before.0 before.1
gone_past l (Release s u es) t low none r h = none r (row_left u t l.rows r h)

next_past : (l : Lock) (e : Event) (t : ℕ) → t < l.next → t < (lock_after l (move_of e)).next
next_past l (Arrive s u w) t low = omega arith
next_past l (Grant s u) t low = low
next_past l (Release s u es) t low = low

stays_gone : (l : Lock) (log : List Event) (t : ℕ) → t < l.next → HasNone t l.rows → HasNone t (lock_run l (moves_of log)).rows
stays_gone l [] t low none = none
stays_gone l (e ∷ es) t low none = stays_gone (lock_after l (move_of e)) es t (next_past l e t low) (gone_past l e t low none)

released_none : (l : Lock) (e : Event) (t : ℕ) → releases t e ≡ true → HasNone t (lock_after l (move_of e)).rows
released_none l (Arrive s u w) t is r h = absurd cc
released_none l (Grant s u) t is r h = absurd cc
released_none l (Release s u es) t is r h =
    let same : u ≡ t = grind (arith, nat_tests) in
    let gone = row_gone t l.rows in
    let h' : row_at t (lock_after l (move_of (Release s t es))).rows ≡ Some r = subst (λ z. row_at t (lock_after l (move_of (Release s z es))).rows ≡ Some r) same h in
    cc

-- So a ticket that is held before and has a row after was not released between.
pub still-held : (l : Lock) (s : EngineState) (log : List Event) (t : ℕ) (r q : LockRow) → IsSound l → HistoryFrom l s log → row_at t l.rows ≡ Some r → r.live ≡ true → row_at t (lock_run l (moves_of log)).rows ≡ Some q → NotReleased t log
still-held l s [] t r q i h at live after = tt
still-held l s (e ∷ es) t r q i h at live after =
    let next : Lock = lock_after l (move_of e) in
    let low : t < next.next = next_past l e t (row_below t l.next l.rows r i.ordered at) in
    let cases : (b : Bool) → releases t e ≡ b → NotReleased t (e ∷ es) = elim [
      | true ↦ (λ k. absurd (stays_gone next es t low (released_none l e t k) q after))
      | false ↦ (λ k.
          let held = held-past l e t r at live k in
          (k, still-held next (state_past s e) es t held.row q (sound_step l (move_of e) h.0 i) h.2 held.at held.live after))
    ] in
    cases (releases t e) refl

noted_more : (x : Noted) (xs ys : List Noted) → IsNoted x xs → IsNoted x (xs ++ ys)
noted_more x [] ys h = absurd h
noted_more x (z ∷ zs) ys h = elim h [ inl e ↦ inl e | inr r ↦ inr (noted_more x zs ys r) ]

-- the two seats, of which the other is the one later on
module _ (old new : LockSeat) (t : ℕ) (r : LockRow) (heard : IsHeard old) (on : HasGoneOn old new) (told : own_row t old ≡ Some r) (still : own_row t new ≡ Some r) (live : r.live ≡ true) where
  abbrev first : List Event
  first = events_of old.seen

  abbrev rest : List Event
  rest = events_of on.seen.0

  cut : first ++ rest ≡ events_of new.seen
  cut = sym (map-append (λ (x : Noted). x.event) old.seen on.seen.0) ∙ ap events_of on.seen.1

  whole : History old.opening.state (first ++ rest)
  whole = subst (λ z. History old.opening.state z) (sym cut) (subst (λ o. History o.state (events_of new.seen)) on.opening on.history)

  agrees : Agree r.want (state_at old) (state_at new)
  agrees =
      let s = old.opening.state in
      let parts = history-split start s first rest whole in
      let before = own-told s first old.number t r parts.0 (subst (λ z. row_told t z ≡ Some r) (sym (own-events old.number old.seen ∙ ap events_of heard)) told) in
      let own' = subst (λ n. row_told t (own_of n (events_of new.seen)) ≡ Some r) on.number (subst (λ z. row_told t z ≡ Some r) (sym (own-events new.number new.seen ∙ ap events_of on.heard)) still) in
      let after = own-told s (first ++ rest) old.number t r whole (subst (λ z. row_told t (own_of old.number z) ≡ Some r) (sym cut) own') in
      let kept = still-held (lock_run start (moves_of first)) (replay s first) rest t r r (history-sound s first parts.0) parts.1 before.0 live (subst (λ (l : Lock). row_at t l.rows ≡ Some r) (lock_run-append start first rest) after.0) in
      let same : Agree r.want (replay s first) (replay s (first ++ rest)) = logs-agree s first rest t r whole before.0 live kept in
      subst (λ o. Agree r.want (replay s first) (replay o.state (events_of new.seen))) (sym on.opening) (subst (λ z. Agree r.want (replay s first) (replay s z)) cut same)

  rises : (faults more : ℕ) → Rose old t faults more → Rose new t faults more
  rises faults more rose = record {
    number = rose.number;
    noted = subst (λ n. IsNoted (grant_with n t rose.number) new.own) (sym on.number) (subst (λ es. IsNoted (grant_with old.number t rose.number) es) on.own.1 (noted_more (grant_with old.number t rose.number) old.own on.own.0 rose.noted));
    rose = λ short.
        let all : length (old.seen ++ on.seen.0) ≡ length new.seen = ap length on.seen.1 in
        let both = length-append old.seen on.seen.0 in
        rose.rose (omega arith);
  }

pub part-stays : PartStays
part-stays old new t r heard valid on told still live =
    let agree : Agree r.want (state_at old) (state_at new) = agrees old new t r heard on told still live in
    record {
      agree = agree;
      part = λ cells table. part-over r.want (state_at old) (state_at new) cells table agree;
      back = λ base es cells table. back-over r.want (state_at old) (state_at new) base es cells table valid on.valid agree;
      rose = rises old new t r heard on told still live;
    }

-- a seat after a turn in which it told no more, or just this
pub gone_on : (old new : LockSeat) (more : List Noted) → IsLater old new → old.own ++ more ≡ new.own → HasGoneOn old new
gone_on old new more later own = record {
  number = later.number;
  opening = later.opening;
  seen = (later.more, sym later.seen);
  own = (more, own);
  heard = later.heard;
  history = later.history;
  valid = later.valid;
}

-- a seat that took another in, and had a turn
pub gone_on-joined : (old joined new : LockSeat) (more : List Noted) → joined.number ≡ old.number → joined.opening ≡ old.opening → IsPrefix old.seen joined.seen → joined.own ≡ old.own → IsLater joined new → old.own ++ more ≡ new.own → HasGoneOn old new
gone_on-joined old joined new more number opening seen own later after = record {
  number = later.number ∙ number;
  opening = later.opening ∙ opening;
  seen = (seen.0 ++ later.more, sym (append_assoc old.seen seen.0 later.more) ∙ (ap (λ z. z ++ later.more) seen.1 ∙ sym later.seen));
  own = (more, after);
  heard = later.heard;
  history = later.history;
  valid = later.valid;
}
