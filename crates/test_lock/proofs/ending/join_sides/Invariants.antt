use Rattle.std.proofs.Common.{◌≡◌}
use Rattle.std.specs.List.{All}
use Rattle.test_lock.specs.Ending.{IsEnded}
use Rattle.test_lock.proofs.ending.join_sides.Given as goal

abbrev pub invariant-loop-side : goal.invariant-loop-side
invariant-loop-side g l = (l.one.turn ≡ l.lock) × All (λ side. IsEnded l.lock side.seat side.work) l.sides.items

abbrev pub decreases-loop-side : goal.decreases-loop-side
decreases-loop-side g l = goal.left-loop-side g l
