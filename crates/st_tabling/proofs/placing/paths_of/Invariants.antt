use Rattle.std.proofs.Common.{◌≡◌, take, map}
use Rattle.st_units.specs.declared.rows.DevRow.{DevRow}
use Rattle.st_tabling.proofs.placing.paths_of.Given as goal

abbrev pub invariant-loop-i : goal.invariant-loop-i
invariant-loop-i l = record {
  list : l.list ≡ map (λ (row : DevRow). row.path) (take l.i l.rows);
}
