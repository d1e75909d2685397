use Rattle.std.proofs.Common.{◌≡◌}
use Rattle.test_lock.proofs.beside.run_lines.Given as goal

abbrev pub invariant-loop-line : goal.invariant-loop-line
invariant-loop-line g l = l.seat.turn ≡ l.lock
