-- a history cut in two, and a history with one more event
use Rattle.std.proofs.Common.{◌≡◌, List, [], ◌∷◌, ◌++◌, refl}
use Rattle.st_wants.specs.Lock.{Lock, start}
use Rattle.st_wants.specs.Rules.{May, lock_after, lock_run}
use Rattle.st_grants.proofs.Sound.{IsSound, sound_start, sound_step}
use Rattle.st_model.specs.declared.state.EngineState.{EngineState}
use Rattle.st_history.specs.declared.log.Event.{Event}
use Rattle.st_history.specs.History.{move_of, moves_of, state_past, replay, IsDue, History, HistoryFrom}

-- a history goes on from where its beginning left off
pub history-split : (l : Lock) (s : EngineState) (log more : List Event) → HistoryFrom l s (log ++ more) → HistoryFrom l s log × HistoryFrom (lock_run l (moves_of log)) (replay s log) more
history-split l s [] more h = (tt, h)
history-split l s (e ∷ es) more h =
    let r = history-split (lock_after l (move_of e)) (state_past s e) es more h.2 in
    ((h.0, h.1, r.0), r.1)

pub history-snoc : (l : Lock) (s : EngineState) (log : List Event) (e : Event) → HistoryFrom l s log → May (lock_run l (moves_of log)) (move_of e) → IsDue (lock_run l (moves_of log)) (replay s log) e → HistoryFrom l s (log ++ e ∷ [])
history-snoc l s [] e h may due = (may, due, tt)
history-snoc l s (x ∷ xs) e h may due = (h.0, h.1, history-snoc (lock_after l (move_of x)) (state_past s x) xs e h.2 may due)

pub lock_run-snoc : (l : Lock) (log : List Event) (e : Event) → lock_run l (moves_of (log ++ e ∷ [])) ≡ lock_after (lock_run l (moves_of log)) (move_of e)
lock_run-snoc l [] e = refl
lock_run-snoc l (x ∷ xs) e = lock_run-snoc (lock_after l (move_of x)) xs e

pub replay-snoc : (s : EngineState) (log : List Event) (e : Event) → replay s (log ++ e ∷ []) ≡ state_past (replay s log) e
replay-snoc s [] e = refl
replay-snoc s (x ∷ xs) e = replay-snoc (state_past s x) xs e

-- after a history the lock's rows are in order, and live grants are apart
sound_from : (l : Lock) (s : EngineState) (log : List Event) → IsSound l → HistoryFrom l s log → IsSound (lock_run l (moves_of log))
sound_from l s [] i h = i
sound_from l s (e ∷ es) i h = sound_from (lock_after l (move_of e)) (state_past s e) es (sound_step l (move_of e) h.0 i) h.2

pub history-sound : (s : EngineState) (log : List Event) → History s log → IsSound (lock_run start (moves_of log))
history-sound s log h = sound_from start s log sound_start h
