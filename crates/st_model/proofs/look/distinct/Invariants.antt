use Rattle.std.proofs.Common.{◌≡◌, ◌++◌, drop}
use Rattle.st_model.specs.Look.{distinct}
use Rattle.st_model.proofs.Distinct.{unseen}
use Rattle.st_model.proofs.look.distinct.Given as goal

-- what was kept, and what of the rest isn't there yet, make the whole
abbrev pub invariant-loop-path : goal.invariant-loop-path
invariant-loop-path l = l.list ++ unseen l.list (distinct (drop l.path-index l.paths)) ≡ distinct l.paths
