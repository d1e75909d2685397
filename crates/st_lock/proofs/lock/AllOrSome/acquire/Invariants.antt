use Rattle.std.proofs.Common.{◌≡◌}
use Rattle.st_lock.specs.Seats.{IsAfter}
use Rattle.st_lock.proofs.lock.AllOrSome.acquire.Given as goal

abbrev pub invariant-loop : goal.invariant-loop
invariant-loop g l =
    (goal.iterator-loop g).can_next l.iterator' × (goal.iterator-loop g).is_finite l.iterator' × IsAfter l.fn.seat l.seat × (l.seat.own ≡ l.fn.seat.own) × (l.ticket ≡ l.fn.ticket)
