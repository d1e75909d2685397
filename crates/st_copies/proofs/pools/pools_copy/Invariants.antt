use Rattle.std.proofs.Common.{◌≡◌, ◌++◌, drop}
use Rattle.st_copies.proofs.pools.pools_copy.Given as goal

abbrev pub invariant-loop-pool : goal.invariant-loop-pool
invariant-loop-pool l = l.list ++ drop l.pool-index l.pools ≡ l.pools
