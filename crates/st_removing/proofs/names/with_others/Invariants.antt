use Rattle.std.proofs.Common.{◌≡◌, ◌∷◌, ◌++◌, drop}
use Rattle.st_model.specs.Look.{without}
use Rattle.st_removing.proofs.names.with_others.Given as goal

abbrev pub invariant-loop-name : goal.invariant-loop-name
invariant-loop-name l = l.list ++ without l.first (drop l.name-index l.names) ≡ l.first ∷ without l.first l.names
