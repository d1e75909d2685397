use Rattle.st_order.proofs.Rising.{Steps}
use Rattle.st_order.proofs.sorted.is_rising.Given as goal

abbrev pub invariant-loop-i : goal.invariant-loop-i
invariant-loop-i g l = Steps g.T.Keyed.text l.i l.items
