use Rattle.std.proofs.Common.{◌≡◌, [], length}
use Rattle.st_plain.specs.Reported.{entered}
use Rattle.st_plain.proofs.state_report.in_order.Given as goal

abbrev pub invariant-loop-list : goal.invariant-loop-list
invariant-loop-list l = entered l.list l.infos.items ≡ entered [] l.fn.infos.items

abbrev pub decreases-loop-list : goal.decreases-loop-list
decreases-loop-list l = length l.infos.items
