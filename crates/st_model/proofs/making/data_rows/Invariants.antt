use Rattle.std.proofs.Common.{◌≡◌, ◌++◌, drop}
use Rattle.st_model.specs.steps.CreatePool.{data_rows}
use Rattle.st_model.proofs.making.data_rows.Given as goal

abbrev pub invariant-loop-path : goal.invariant-loop-path
invariant-loop-path l = l.list ++ data_rows l.rows (drop l.path-index l.paths) ≡ data_rows l.rows l.paths
