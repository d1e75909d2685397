use Rattle.std.proofs.Common.{◌≡◌, drop, []}
use Rattle.std.specs.List.{AllByRecursion}
use Rattle.st_model.specs.declared.state.PoolState.{PoolState}
use Rattle.st_model.specs.Sums.{AreSmall}
use Rattle.st_model.specs.Shown.{infos_with, started_pools}
use Rattle.st_step.proofs.reports.started_infos.Given as goal

abbrev pub invariant-loop-pool : goal.invariant-loop-pool
invariant-loop-pool l =
    (infos_with l.list (started_pools (drop l.pool-index l.pools)) ≡ infos_with [] (started_pools l.pools))
    × AllByRecursion (λ (pool : PoolState). AreSmall pool.devices) (drop l.pool-index l.pools)
