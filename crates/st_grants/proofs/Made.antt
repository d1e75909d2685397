-- calls that may be made obey the rule
use Rattle.std.proofs.Common.{◌≡◌, true, false, List, [], ◌∷◌, take, Option, Some, None, refl}
use Rattle.std.specs.Prelude.{IsSomeAnd}
use Rattle.st_wants.specs.declared.row.LockRow.{LockRow}
use Rattle.st_wants.specs.Lock.{Lock, row_at, start}
use Rattle.st_wants.specs.Rules.{Move, lock_after, May, Obeys}
use Rattle.st_wants.specs.Places.{IsByRule, LiveGrantsApart}
use Rattle.st_grants.specs.Calls.{Call, Arrive, Grant, Release, Requires, AreMade, event_of, events_of, seat_in}
use Rattle.st_grants.proofs.Told.{told_start}
use Rattle.st_grants.proofs.Follows.{places_of, obeys_places, told_at, live_apart}

by_its_seat : (b : Option LockRow) (P : LockRow → Type 0) → IsSomeAnd b P → IsSomeAnd b (λ r. P r × (r.seat ≡ seat_in b))
by_its_seat (Some r) P h = (h, refl)
by_its_seat None P h = absurd h

pub made_may : (l : Lock) (c : Call) → Requires l c → May l (event_of l c)
made_may l (Arrive s w) h = refl
made_may l (Grant t) h = (by_its_seat (row_at t l.rows) (λ r. r.live ≡ false) h.0, h.1)
made_may l (Release t) h = by_its_seat (row_at t l.rows) (λ r. r.live ≡ true) h

pub made_obeys : (l : Lock) (cs : List Call) → AreMade l cs → Obeys l (events_of l cs)
made_obeys l [] h = tt
made_obeys l (c ∷ cs) h = (made_may l c h.0, made_obeys (lock_after l (event_of l c)) cs h.1)

pub obeys_by_rule : (log : List Move) → Obeys start log → IsByRule log
obeys_by_rule log o = places_of [] start log told_start o

pub by_rule_obeys : (log : List Move) → IsByRule log → Obeys start log
by_rule_obeys log h = obeys_places [] start log told_start h

pub obeys_apart : (log : List Move) → Obeys start log → LiveGrantsApart log
obeys_apart log o i t u w v g k ne = live_apart (take i log) _ t u w v (told_at [] start log i told_start o) g k ne
