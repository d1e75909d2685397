use Rattle.std.proofs.Common.{◌≡◌, take, map}
use Rattle.st_rack.specs.Calls.{path_in}
use Rattle.st_opening.proofs.opening.paths_of.Given as goal

abbrev pub invariant-loop-i : goal.invariant-loop-i
invariant-loop-i g l = record {
  list : l.list ≡ map path_in (take l.i (g.R.Rack.devs l.rack));
}
