use Rattle.std.proofs.Common.{◌≡◌, ◌++◌, drop}
use Rattle.st_model.specs.Checks.{rows_on}
use Rattle.st_step.proofs.tiers.rows_on.Given as goal

abbrev pub invariant-loop-path : goal.invariant-loop-path
invariant-loop-path l = l.list ++ rows_on l.tier l.rack (drop l.path-index l.paths) ≡ rows_on l.tier l.rack l.paths
