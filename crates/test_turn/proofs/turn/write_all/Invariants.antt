use Rattle.std.proofs.Common.{◌≡◌, false}
use Rattle.test_turn.specs.WritesOnly.{WritesOnly}
use Rattle.test_turn.proofs.turn.write_all.Given as goal

abbrev pub invariant-loop-value : goal.invariant-loop-value
invariant-loop-value g l = WritesOnly l.fn.seat l.seat × (l.seat.is_in ≡ false)
