use Rattle.std.proofs.Common.{◌≡◌}
use Rattle.bench_lock.proofs.proved.run_rounds.Given as goal

abbrev pub invariant-loop-line : goal.invariant-loop-line
invariant-loop-line g l = l.seat.turn ≡ l.lock
