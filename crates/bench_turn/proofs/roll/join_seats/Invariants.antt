use Rattle.std.proofs.Common.{◌≡◌, false}
use Rattle.std.specs.List.{All}
use Rattle.bench_turn.proofs.roll.join_seats.Given as goal

abbrev pub invariant-loop-seat : goal.invariant-loop-seat
invariant-loop-seat l = (l.one.turn ≡ l.turn) × (l.one.is_in ≡ false) × All (λ seat. (seat.turn ≡ l.turn) × (seat.is_in ≡ false)) l.seats.items

abbrev pub decreases-loop-seat : goal.decreases-loop-seat
decreases-loop-seat l = goal.left-loop-seat l
