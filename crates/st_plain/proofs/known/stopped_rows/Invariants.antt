use Rattle.std.proofs.Common.{◌≡◌, drop, []}
use Rattle.st_model.specs.Shown.{stopped_with}
use Rattle.st_plain.proofs.known.stopped_rows.Given as goal

abbrev pub invariant-loop-pool : goal.invariant-loop-pool
invariant-loop-pool l = stopped_with l.list (drop l.pool-index l.pools) ≡ stopped_with [] l.pools
