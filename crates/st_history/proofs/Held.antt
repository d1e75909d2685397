-- a ticket that is held, and what it wants, over the events that come
use Rattle.std.proofs.Common.{ℕ, zero, suc, ◌≡◌, ◌≢◌, ◌==◌, Bool, true, false, ◌||◌, List, [], ◌∷◌, ◌++◌, Some, refl, ap, sym, ◌∙◌, subst, arith}
use Rattle.std.specs.Prelude.{slice_get}
use Rattle.std.proofs.lemmas.Bool.Decides.{nat_tests}
use Rattle.st_wants.specs.Lock.{Lock, row_at, marked, new_row, start, IsLive}
use Rattle.st_wants.specs.Rules as rule
use Rattle.st_wants.specs.Rules.{May, lock_after, lock_run}
use Rattle.st_wants.specs.Wants.{compatible}
use Rattle.st_wants.specs.declared.row.LockRow.{LockRow}
use Rattle.st_grants.proofs.Lookups.{ticket_of}
use Rattle.st_grants.proofs.Sound.{IsSound, sound_step, row_keep, row_marks, row_stays, some_and, or_true}
use Rattle.st_model.specs.Parts.{Agree}
use Rattle.st_model.specs.declared.state.EngineState.{EngineState}
use Rattle.st_history.proofs.Agreement.{agree_self, agree_trans, entries_of_want, entries_agree}
use Rattle.st_history.proofs.Histories.{replay-append}
use Rattle.st_history.proofs.Snoc.{history-split, history-sound}
use Rattle.st_history.specs.Agreement.{releases, NotReleased}
use Rattle.st_history.specs.History.{move_of, moves_of, state_past, replay, IsOf, IsDue, History, HistoryFrom}
use Rattle.st_history.specs.declared.log.Event.{Event}
use Rattle.st_history.specs.declared.log.Event.TheVariants.{Arrive, Grant, Release}

-- the row of a ticket that is live, and wants the same as another row
pub record LiveRow (l : Lock) (t : ℕ) (r : LockRow) : Type 0 where
  pub row : LockRow
  pub at : row_at t l.rows ≡ Some row
  pub live : row.live ≡ true
  pub want : row.want ≡ r.want

-- a held ticket's row after an event that doesn't release it
pub held-past : (l : Lock) (e : Event) (t : ℕ) (r : LockRow) → row_at t l.rows ≡ Some r → r.live ≡ true → releases t e ≡ false → LiveRow (lock_after l (move_of e)) t r
held-past l (Arrive seat u want) t r at live n = record { row = r; at = row_keep t l.rows (new_row l.next seat want) r at; live = live; want = refl }
held-past l (Grant seat u) t r at live n = record { row = marked u r; at = row_marks u t l.rows r at; live = ap (λ (b : Bool). b || (r.ticket == u)) live; want = refl }
held-past l (Release seat u entries) t r at live n = record { row = r; at = row_stays u t l.rows r (λ e. let same : (u == t) ≡ true = grind (arith, nat_tests) in cc) at; live = live; want = refl }

-- what it wants is left by the event
event-agrees : (l : Lock) (s : EngineState) (e : Event) (t : ℕ) (r : LockRow) → IsSound l → May l (move_of e) → IsDue l s e → row_at t l.rows ≡ Some r → r.live ≡ true → releases t e ≡ false → Agree r.want s (state_past s e)
event-agrees l s (Arrive seat u want) t r i may due at live n = agree_self r.want s
event-agrees l s (Grant seat u) t r i may due at live n = agree_self r.want s
event-agrees l s (Release seat u entries) t r i may due at live n =
    let own = some_and (λ (q : LockRow). (q.live ≡ true) × (q.seat ≡ seat)) (row_at u l.rows) may in
    let asked = some_and (λ (q : LockRow). IsOf q.want entries.items) (row_at u l.rows) due.2 in
    let same : own.0 ≡ asked.0 = cc (own.1, asked.1) in
    let ne : t ≢ u = λ e. let eq : (u == t) ≡ true = grind (arith, nat_tests) in cc in
    let ok : compatible r.want own.0.want ≡ true = i.apart t u r own.0 at own.1 live own.2.0 ne in
    let all = entries_of_want s asked.0.want entries.items due.1 asked.2 in
    entries_agree r.want asked.0.want s entries.items all (subst (λ (q : LockRow). compatible r.want q.want ≡ true) same ok)

-- and by all events that come
pub held-agrees : (l : Lock) (s : EngineState) (more : List Event) (t : ℕ) (r : LockRow) → IsSound l → HistoryFrom l s more → row_at t l.rows ≡ Some r → r.live ≡ true → NotReleased t more → Agree r.want s (replay s more)
held-agrees l s [] t r i h at live n = agree_self r.want s
held-agrees l s (e ∷ es) t r i h at live n =
    let next = held-past l e t r at live n.0 in
    let past : EngineState = state_past s e in
    let here : Agree r.want s past = event-agrees l s e t r i h.0 h.1 at live n.0 in
    let rest : Agree next.row.want past (replay past es) = held-agrees (lock_after l (move_of e)) past es t next.row (sound_step l (move_of e) h.0 i) h.2 next.at next.live n.1 in
    agree_trans r.want s past (replay past es) here (subst (λ w. Agree w past (replay past es)) next.want rest)

pub logs-agree : (s : EngineState) (log more : List Event) (t : ℕ) (r : LockRow) → History s (log ++ more) → row_at t (lock_run start (moves_of log)).rows ≡ Some r → r.live ≡ true → NotReleased t more → Agree r.want (replay s log) (replay s (log ++ more))
logs-agree s log more t r h at live n =
    let parts = history-split start s log more h in
    rw (replay-append s log more) (held-agrees (lock_run start (moves_of log)) (replay s log) more t r (history-sound s log parts.0) parts.1 at live n)

-- a held ticket stays held while nothing releases it
pub held-stays : (l : Lock) (log : List Event) (t : ℕ) (r : LockRow) → row_at t l.rows ≡ Some r → r.live ≡ true → NotReleased t log → LiveRow (lock_run l (moves_of log)) t r
held-stays l [] t r at live n = record { row = r; at = at; live = live; want = refl }
held-stays l (e ∷ es) t r at live n =
    let a = held-past l e t r at live n.0 in
    let b = held-stays (lock_after l (move_of e)) es t a.row a.at a.live n.1 in
    record { row = b.row; at = b.at; live = b.live; want = b.want ∙ a.want }

-- a ticket that the log grants and doesn't release is live after it
live_from : (l : Lock) (s : EngineState) (log : List Event) (i t seat : ℕ) → HistoryFrom l s log → slice_get log i ≡ Some (Grant seat t) → NotReleased t log → IsLive (lock_run l (moves_of log)) t
live_from l s [] i t seat h at n = absurd cc
live_from l s (e ∷ es) zero t seat h at n =
    let same : e ≡ Grant seat t = cc in
    let may : May l (rule.Grant seat t) = subst (λ (x : Event). May l (move_of x)) same h.0 in
    let own = some_and (λ (r : LockRow). (r.live ≡ false) × (r.seat ≡ seat)) (row_at t l.rows) may.0 in
    let ticket : own.0.ticket ≡ t = ticket_of t l.rows own.0 own.1 in
    let b : (own.0.ticket == t) ≡ true = grind (arith, nat_tests) in
    let lives : (marked t own.0).live ≡ true = ap (λ (x : Bool). own.0.live || x) b ∙ or_true own.0.live in
    let here : row_at t (lock_after l (move_of e)).rows ≡ Some (marked t own.0) = subst (λ (x : Event). row_at t (lock_after l (move_of x)).rows ≡ Some (marked t own.0)) (sym same) (row_marks t t l.rows own.0 own.1) in
    let r = held-stays (lock_after l (move_of e)) es t (marked t own.0) here lives n.1 in
    rw r.at r.live
live_from l s (e ∷ es) (suc i) t seat h at n = live_from (lock_after l (move_of e)) (state_past s e) es i t seat h.2 at n.1

pub live-in_log : (s : EngineState) (log : List Event) (i t seat : ℕ) → History s log → slice_get log i ≡ Some (Grant seat t) → NotReleased t log → IsLive (lock_run start (moves_of log)) t
live-in_log s log i t seat h at n = live_from start s log i t seat h at n
