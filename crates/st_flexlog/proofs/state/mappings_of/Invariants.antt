use Rattle.std.proofs.Common.{◌≡◌, take, map}
use Rattle.st_flexlog.specs.State.{mapping_of}
use Rattle.st_flexlog.proofs.state.mappings_of.Given as goal

abbrev pub invariant-loop-row : goal.invariant-loop-row
invariant-loop-row l = l.mappings.items ≡ map (mapping_of l.filesystems l.cells) (take l.row-index l.rows)
