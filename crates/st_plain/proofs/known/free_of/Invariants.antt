use Rattle.std.proofs.Common.{◌≡◌, ◌++◌, drop}
use Rattle.st_model.specs.Parts.{free_of}
use Rattle.st_plain.proofs.known.free_of.Given as goal

abbrev pub invariant-loop-row : goal.invariant-loop-row
invariant-loop-row l = l.list ++ free_of l.names (drop l.row-index l.rows) ≡ free_of l.names l.rows
