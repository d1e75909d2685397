use Rattle.std.proofs.Common.{◌≡◌, false}
use Rattle.std.specs.List.{All}
use Rattle.bench_turn.proofs.roll.split_seats.Given as goal

abbrev pub invariant-loop : goal.invariant-loop
invariant-loop l = (l.one.turn ≡ l.turn) × (l.one.is_in ≡ false) × All (λ seat. (seat.turn ≡ l.turn) × (seat.is_in ≡ false)) l.seats.items
