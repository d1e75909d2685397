use Rattle.std.proofs.Common.{◌≡◌, ◌++◌, drop}
use Rattle.st_step.specs.Adding.{outside}
use Rattle.st_step.proofs.tiers.outside.Given as goal

abbrev pub invariant-loop-path : goal.invariant-loop-path
invariant-loop-path l = l.list ++ outside l.tier (drop l.path-index l.paths) ≡ outside l.tier l.paths
