use Rattle.std.proofs.Common.{◌≡◌, drop, []}
use Rattle.st_model.specs.Shown.{stopped_with, halted_pools}
use Rattle.st_step.proofs.reports.stopped_rows.Given as goal

abbrev pub invariant-loop-pool : goal.invariant-loop-pool
invariant-loop-pool l = stopped_with l.list (halted_pools (drop l.pool-index l.pools)) ≡ stopped_with [] (halted_pools l.pools)
