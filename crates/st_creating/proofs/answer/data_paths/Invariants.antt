use Rattle.std.proofs.Common.{◌≡◌, ◌++◌, drop}
use Rattle.st_model.specs.steps.CreatePool.{data_paths}
use Rattle.st_creating.proofs.answer.data_paths.Given as goal

abbrev pub invariant-loop-row : goal.invariant-loop-row
invariant-loop-row l = l.list ++ data_paths (drop l.row-index l.rows) ≡ data_paths l.rows
