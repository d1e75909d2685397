use Rattle.st_links.specs.Ring.{IsSelf}
use Rattle.st_links.proofs.nodes.selves.Given as goal

abbrev pub invariant-loop-node : goal.invariant-loop-node
invariant-loop-node l = IsSelf l.nodes.items l.node
