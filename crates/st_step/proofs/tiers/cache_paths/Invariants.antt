use Rattle.std.proofs.Common.{◌≡◌, ◌++◌, drop}
use Rattle.st_model.specs.Flight.{cache_paths}
use Rattle.st_step.proofs.tiers.cache_paths.Given as goal

abbrev pub invariant-loop-row : goal.invariant-loop-row
invariant-loop-row l = l.list ++ cache_paths (drop l.row-index l.rows) ≡ cache_paths l.rows
