use Rattle.std.proofs.Common.{◌≡◌}
use Rattle.test_begin.proofs.engine.run_lines.Given as goal

abbrev pub invariant-loop-line : goal.invariant-loop-line
invariant-loop-line g l = (l.seat.turn ≡ l.engine) × (l.seat.opening ≡ l.initial.seat.opening)
