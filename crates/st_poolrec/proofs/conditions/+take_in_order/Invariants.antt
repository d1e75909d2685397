use Rattle.std.proofs.Common.{length}
use Rattle.st_poolrec.proofs.conditions.+take_in_order.Given as goal

abbrev pub decreases-take_in_order : goal.decreases-take_in_order
decreases-take_in_order l = length l.devs.now
