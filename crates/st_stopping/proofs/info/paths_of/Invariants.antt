use Rattle.std.proofs.Common.{◌≡◌, ◌++◌, drop, map}
use Rattle.st_units.specs.declared.rows.DevRow.{DevRow}
use Rattle.st_stopping.proofs.info.paths_of.Given as goal

abbrev pub invariant-loop-row : goal.invariant-loop-row
invariant-loop-row l = l.list ++ map (λ (row : DevRow). row.path) (drop l.row-index l.rows) ≡ map (λ (row : DevRow). row.path) l.rows
