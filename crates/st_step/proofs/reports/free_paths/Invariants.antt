use Rattle.std.proofs.Common.{◌≡◌, ◌++◌, drop}
use Rattle.st_model.specs.Shown.{free_paths}
use Rattle.st_step.proofs.reports.free_paths.Given as goal

abbrev pub invariant-loop-row : goal.invariant-loop-row
invariant-loop-row l = l.list ++ free_paths l.pools (drop l.row-index l.rows) ≡ free_paths l.pools l.rows
