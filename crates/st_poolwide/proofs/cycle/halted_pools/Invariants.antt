use Rattle.std.proofs.Common.{◌≡◌, ◌++◌, drop, map}
use Rattle.st_model.specs.Checks.{halted}
use Rattle.st_poolwide.proofs.cycle.halted_pools.Given as goal

abbrev pub invariant-loop-pool : goal.invariant-loop-pool
invariant-loop-pool l = l.list ++ map halted (drop l.pool-index l.pools) ≡ map halted l.pools
