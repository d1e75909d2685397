use Rattle.st_links.specs.Ring.{IsHome}
use Rattle.st_links.proofs.nodes.homes.Given as goal

abbrev pub invariant-loop-list : goal.invariant-loop-list
invariant-loop-list l = IsHome l.homes.items l.places l.lists l.list
