use Rattle.std.proofs.Common.{◌≡◌, false}
use Rattle.bench_turn.proofs.roll.sign_often.Given as goal

abbrev pub invariant-loop : goal.invariant-loop
invariant-loop g l = (l.seat.turn ≡ l.turn) × (l.seat.is_in ≡ false)
