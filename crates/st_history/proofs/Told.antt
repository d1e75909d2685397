-- what the lock's rows tell of a history
use Rattle.std.proofs.Common.{ℕ, ◌≡◌, false, List, [], ◌∷◌, ◌++◌, Some, sym, subst, append_assoc, append-nil}
use Rattle.std.specs.List.{Contains}
use Rattle.st_wants.specs.declared.row.LockRow.{LockRow}
use Rattle.st_wants.specs.Lock.{Lock, row_at, start}
use Rattle.st_wants.specs.Rules.{Move, lock_after, lock_run}
use Rattle.st_wants.specs.Rules as rule
use Rattle.st_grants.proofs.Told.{Told, told_start, told_step}
use Rattle.st_model.specs.declared.state.EngineState.{EngineState}
use Rattle.st_history.specs.declared.log.Event.{Event}
use Rattle.st_history.specs.History.{move_of, moves_of, state_past, History, HistoryFrom}

told_run : (past : List Move) (l : Lock) (s : EngineState) (log : List Event) → Told past l → HistoryFrom l s log → Told (past ++ moves_of log) (lock_run l (moves_of log))
told_run past l s [] h g = subst (λ z. Told z l) (sym (append-nil past)) h
told_run past l s (e ∷ es) h g =
    subst (λ z. Told z (lock_run (lock_after l (move_of e)) (moves_of es))) (append_assoc past (move_of e ∷ []) (moves_of es))
    (told_run (past ++ move_of e ∷ []) (lock_after l (move_of e)) (state_past s e) es (told_step past l (move_of e) g.0 h) g.2)

pub history-told : (s : EngineState) (log : List Event) → History s log → Told (moves_of log) (lock_run start (moves_of log))
history-told s log h = told_run [] start s log told_start h

-- a ticket that waits was never granted
pub waits-not_granted : (s : EngineState) (log : List Event) (t seat : ℕ) (r : LockRow) → History s log → row_at t (lock_run start (moves_of log)).rows ≡ Some r → r.live ≡ false → Contains (moves_of log) (rule.Grant seat t) → ⊥
waits-not_granted s log t seat r h at waits c = ((history-told s log h).rows t r at).waits waits seat c
