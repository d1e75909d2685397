-- how faults of devices count over a log
use Rattle.std.proofs.Common.{ℕ, ◌≡◌, ◌+◌, ◌*◌, ◌≤◌, List, [], ◌∷◌, ◌++◌, length, arith}
use Rattle.std.specs.List.{count_by}
use Rattle.std.proofs.lemmas.List.Sums.{count_by-le-length, length-filter}
use Rattle.st_units.specs.Roomy.{Roomy}
use Rattle.st_wants.specs.declared.want.Want.{Want}
use Rattle.st_wants.specs.Lock.{Lock, start}
use Rattle.st_wants.specs.Rules.{lock_after}
use Rattle.st_model.specs.declared.entry.Entry.{Entry}
use Rattle.st_model.specs.declared.state.EngineState.{EngineState}
use Rattle.st_history.specs.declared.log.Event.{Event}
use Rattle.st_history.specs.declared.log.Event.TheVariants.{Arrive, Grant, Release}
use Rattle.st_history.specs.Failures.{is_failure, failures_of, failures_in, failures}
use Rattle.st_history.specs.History.{move_of, state_past, AreOneCall, History, HistoryFrom, IsDue}

pub failures-append : (log more : List Event) → failures (log ++ more) ≡ failures log + failures more
failures-append [] more = omega arith
failures-append (e ∷ es) more =
    let rest : failures (es ++ more) ≡ failures es + failures more = failures-append es more in
    omega arith

pub failures-snoc : (log : List Event) (e : Event) → failures (log ++ e ∷ []) ≡ failures log + failures_in e
failures-snoc log e = let both = failures-append log (e ∷ []) in omega (arith, both)

pub failures-arrived : (log : List Event) (seat ticket : ℕ) (want : Want) → failures (log ++ Arrive seat ticket want ∷ []) ≡ failures log
failures-arrived log seat ticket want = let e = failures-snoc log (Arrive seat ticket want) in omega (arith, e)

pub failures-granted : (log : List Event) (seat ticket : ℕ) → failures (log ++ Grant seat ticket ∷ []) ≡ failures log
failures-granted log seat ticket = let e = failures-snoc log (Grant seat ticket) in omega (arith, e)

pub failures-released : (log : List Event) (seat ticket : ℕ) (entries : Roomy Entry) → failures (log ++ Release seat ticket entries ∷ []) ≡ failures log + failures_of entries.items
failures-released log seat ticket entries = failures-snoc log (Release seat ticket entries)

pub failures_of-few : (entries : List Entry) → failures_of entries ≤ length entries
failures_of-few entries =
    let counted : failures_of entries ≡ count_by is_failure entries = length-filter is_failure entries in
    let some : count_by is_failure entries ≤ length entries = count_by-le-length is_failure entries in
    omega arith

-- a release holds one call, or two
pub at_most_two : (s : EngineState) (entries : List Entry) → AreOneCall s entries → length entries ≤ 2
at_most_two s [] h = absurd h
at_most_two s (e ∷ []) h = omega arith
at_most_two s (c ∷ e ∷ []) h = omega arith
at_most_two s (c ∷ d ∷ e ∷ es) h = absurd h

few_in : (l : Lock) (s : EngineState) (e : Event) → IsDue l s e → failures_in e ≤ 2
few_in l s (Arrive seat ticket want) h = omega arith
few_in l s (Grant seat ticket) h = omega arith
few_in l s (Release seat ticket entries) h =
    let two : length entries.items ≤ 2 = at_most_two s entries.items h.1 in
    let some : failures_in (Release seat ticket entries) ≤ length entries.items = failures_of-few entries.items in
    omega arith

few_from : (l : Lock) (s : EngineState) (log : List Event) → HistoryFrom l s log → failures log ≤ 2 * length log
few_from l s [] h = omega arith
few_from l s (e ∷ es) h =
    let first : failures_in e ≤ 2 = few_in l s e h.1 in
    let rest : failures es ≤ 2 * length es = few_from (lock_after l (move_of e)) (state_past s e) es h.2 in
    omega arith

-- a history has no more faults than twice its events
pub failures-few : (s : EngineState) (log : List Event) → History s log → failures log ≤ 2 * length log
failures-few s log h = few_from start s log h
