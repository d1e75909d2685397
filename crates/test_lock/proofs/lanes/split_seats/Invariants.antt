use Rattle.std.proofs.Common.{◌≡◌}
use Rattle.std.specs.List.{All}
use Rattle.test_lock.proofs.lanes.split_seats.Given as goal

abbrev pub invariant-loop : goal.invariant-loop
invariant-loop g l = (l.one.turn ≡ l.lock) × All (λ seat. seat.turn ≡ l.lock) l.seats.items
