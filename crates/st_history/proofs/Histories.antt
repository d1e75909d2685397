-- histories in two parts, and the history of one call under its own grant
use Rattle.std.proofs.Common.{◌≡◌, ℕ, ◌+◌, ◌==◌, List, [], ◌∷◌, ◌++◌, Bool, true, false, ◌&&◌, ◌||◌, nat_lt, cond, Some, None, refl, arith}
use Rattle.std.proofs.lemmas.Grind.{common_steps}
use Rattle.st_units.specs.Roomy.{Roomy}
use Rattle.st_wants.specs.declared.want.Want.{Want}
use Rattle.st_wants.specs.declared.row.LockRow.{LockRow}
use Rattle.st_wants.specs.Wants.{conflict}
use Rattle.st_wants.specs.Lock.{Lock, row_at, has_ticket, new_row, keeps_back, IsFree}
use Rattle.st_wants.specs.Rules.{lock_after, lock_run}
use Rattle.st_model.specs.declared.entry.Entry.{Entry}
use Rattle.st_history.specs.declared.log.Event.{Event}
use Rattle.st_history.specs.declared.log.Event.TheVariants.{Arrive, Grant, Release}
use Rattle.st_model.specs.declared.state.EngineState.{EngineState}
use Rattle.st_history.specs.History.{move_of, moves_of, state_past, replay, AreSteps, AreOneCall, HistoryFrom, idle}
use Rattle.st_model.specs.Step.{step}
use Rattle.st_model.specs.Wanted.{want_of}

pub history-append : (l : Lock) (s : EngineState) (log more : List Event) → HistoryFrom l s log → HistoryFrom (lock_run l (moves_of log)) (replay s log) more → HistoryFrom l s (log ++ more)
history-append l s [] more h g = g
history-append l s (e ∷ log) more h g = (h.0, h.1, history-append (lock_after l (move_of e)) (state_past s e) log more h.2 g)

pub lock_run-append : (l : Lock) (log more : List Event) → lock_run l (moves_of (log ++ more)) ≡ lock_run (lock_run l (moves_of log)) (moves_of more)
lock_run-append l [] more = refl
lock_run-append l (e ∷ log) more = lock_run-append (lock_after l (move_of e)) log more

pub replay-append : (s : EngineState) (log more : List Event) → replay s (log ++ more) ≡ replay (replay s log) more
replay-append s [] more = refl
replay-append s (e ∷ log) more = replay-append (state_past s e) log more

-- the lock with one row
abbrev pub alone : ℕ → LockRow → Lock
alone next row = record { next = next; rows = row ∷ [] }

same_ticket : (t : ℕ) → (t == t) ≡ true
same_ticket t = grind (arith, common_steps)

the_one : (u : ℕ) (row q : LockRow) → row_at u (row ∷ []) ≡ Some q → q ≡ row
the_one u row q h = here (has_ticket u row) h
  where
    here : (b : Bool) → cond b (Some row) None ≡ Some q → q ≡ row
    here true g = cc
    here false g = absurd cc

not_before : (c b : Bool) → b ≡ false → (c && (false || b)) ≡ true → ⊥
not_before true b e h = absurd cc
not_before false b e h = absurd cc

-- the one ticket that is out isn't kept back: it doesn't come before itself
alone-free : (next ticket seat : ℕ) (want : Want) → IsFree (alone next (new_row ticket seat want)) ticket
alone-free next ticket seat want u blocks =
    let row = new_row ticket seat want in
    let first = the_one u row blocks.blocker blocks.blocker_at in
    let second = the_one ticket row blocks.own blocks.own_at in
    let back : keeps_back row row ≡ true = rw (first, second) at blocks.back in
    not_before (conflict want want) (nat_lt ticket ticket) (grind (arith, common_steps)) back

-- the lock and the engine allow one call, from its arrival to its release, where no ticket is out
pub one_call : (seat next : ℕ) (s : EngineState) (entries : Roomy Entry) (e : Entry) → entries.items ≡ e ∷ [] → AreSteps s (e ∷ []) → AreOneCall s (e ∷ [])
    → HistoryFrom (idle next) s (Arrive seat next (want_of e.call) ∷ Grant seat next ∷ Release seat next entries ∷ [])
one_call seat next s entries e is steps one =
    let same = same_ticket next in
    let free = alone-free (next + 1) next seat (want_of e.call) in
    (refl, tt, ((rw same (refl, refl), free), tt, (rw same (refl, refl), rw (is, same) (steps, one, refl), tt)))

-- and no ticket is out after it
pub one_call-idle : (seat next : ℕ) (entries : Roomy Entry) (want : Want) → lock_run (idle next) (moves_of (Arrive seat next want ∷ Grant seat next ∷ Release seat next entries ∷ [])) ≡ idle (next + 1)
one_call-idle seat next entries want = rw (same_ticket next) refl

pub one_call-state : (seat next : ℕ) (s : EngineState) (entries : Roomy Entry) (e : Entry) (want : Want) → entries.items ≡ e ∷ []
    → replay s (Arrive seat next want ∷ Grant seat next ∷ Release seat next entries ∷ []) ≡ (step s e.call e.env).1
one_call-state seat next s entries e want is = rw is refl
