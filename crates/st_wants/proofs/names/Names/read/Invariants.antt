use Rattle.std.proofs.Common.{◌≡◌, ◌≤◌, true, drop, length}
use Rattle.st_wants.specs.Names.{are_rising, with_names, names_of}
use Rattle.st_wants.proofs.names.Names.read.Given as goal

abbrev pub invariant-loop-name : goal.invariant-loop-name
invariant-loop-name l = (are_rising l.names ≡ true) × (length l.names ≤ 8) × (with_names l.names (drop l.name-index l.list) ≡ names_of l.list)
