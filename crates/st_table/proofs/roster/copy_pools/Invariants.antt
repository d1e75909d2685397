use Rattle.std.proofs.Common.{◌≡◌, ◌++◌, drop}
use Rattle.st_table.proofs.roster.copy_pools.Given as goal

abbrev pub invariant-loop-pool : goal.invariant-loop-pool
invariant-loop-pool l = l.copy.items ++ drop l.pool-index l.pools ≡ l.pools
