use Rattle.std.proofs.Common.{◌≡◌, ◌+◌, min, take}
use Rattle.std.specs.List.{sum_by}
use Rattle.st_board.specs.View.{last}
use Rattle.st_board.proofs.board.sum_of.Given as goal

abbrev pub invariant-loop-pool : goal.invariant-loop-pool
invariant-loop-pool g l = l.sum ≡ min (l.past + sum_by (λ h. h.faults) (take l.pool-index l.halted)) last
