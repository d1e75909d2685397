use Rattle.std.proofs.Common.{◌≡◌, ◌++◌, drop}
use Rattle.st_model.specs.Look.{distinct}
use Rattle.st_model.proofs.Distinct.{unseen}
use Rattle.st_reports.proofs.names.distinct.Given as goal

-- what was kept, and what of the rest isn't there yet, make the whole
abbrev pub invariant-loop-name : goal.invariant-loop-name
invariant-loop-name l = l.list ++ unseen l.list (distinct (drop l.name-index l.names)) ≡ distinct l.names
