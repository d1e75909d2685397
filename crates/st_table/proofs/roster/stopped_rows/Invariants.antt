use Rattle.std.proofs.Common.{◌≡◌, ◌++◌, drop, map}
use Rattle.std.specs.Prelude.{filter_map}
use Rattle.st_table.specs.Table.{stopped_row}
use Rattle.st_table.specs.inner.Sound.{table_pool}
use Rattle.st_table.proofs.roster.stopped_rows.Given as goal

abbrev pub invariant-loop-pool : goal.invariant-loop-pool
invariant-loop-pool l = l.rows ++ filter_map stopped_row (map table_pool (drop l.pool-index l.pools)) ≡ filter_map stopped_row (map table_pool l.pools)
